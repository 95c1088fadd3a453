-- A result with a vector, seen as one with its items.
use Rattle.std.proofs.Common.{ℕ, List, Vec, Option, Some, None, Result, Ok, Err}
use Rattle.sshc_key.specs.KeyFiles.{Told, AnswersBy, HasReadCause}
use Rattle.sshc_key.specs.declared.error.Error.{Error}

pub seen_ok : {A M : Type 0} (v : Vec A M) (files : Option Told) (outcome : Told → Result (List A) Error) → AnswersBy {X = Vec A M} (λ v. v.items) (Ok v) files outcome → AnswersBy {X = List A} (λ y. y) (Ok v.items) files outcome
seen_ok v None outcome h = tt
seen_ok v (Some files) outcome h = h

pub seen_err : {A : Type 0} (M : Type 0) (e : Error) (files : Option Told) (outcome : Told → Result (List A) Error) → AnswersBy {X = Vec A M} (λ v. v.items) (Err e) files outcome → AnswersBy {X = List A} (λ y. y) (Err e) files outcome
seen_err M e None outcome h = tt
seen_err M e (Some files) outcome h = h

pub cause_ok : {A M : Type 0} (before now : ℕ) (v : Vec A M) → HasReadCause {T = Vec A M} before now (Ok v) → HasReadCause {T = List A} before now (Ok v.items)
cause_ok before now v h = record { later = h.later; fault = λ is. absurd cc; same = λ no. h.same (λ is. absurd cc) }

pub cause_err : {A M : Type 0} (before now : ℕ) (e : Error) → HasReadCause {T = Vec A M} before now (Err e) → HasReadCause {T = List A} before now (Err e)
cause_err before now e h = record { later = h.later; fault = λ is. h.fault cc; same = λ no. h.same (λ is. no cc) }
