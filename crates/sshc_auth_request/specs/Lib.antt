pub mod RequestTexts
pub mod KeyParts
