-- The text of a record that fits is told by its text.
use Rattle.std.proofs.Common.{refl}
use Rattle.sshc_wire.specs.declared.record.Record.{Record}
use Rattle.sshc_wire.specs.declared.record.Record.TheVariants.{Payload, BeginExchange, Opened, Resolved, Auth, KexDone, AuthBanner, Channel, ServerOpened, HostKeysAnnounced, Agent}
use Rattle.sshc_wire.specs.Fitting.{Fits}
use Rattle.sshc_wire.specs.Telling.{IsTold, record_of}
use Rattle.sshc_wire.proofs.TellingParts.{last_string, last_strings}
use Rattle.sshc_wire.proofs.ToldResolutions.{resolved_told}
use Rattle.sshc_wire.proofs.ToldAuth.{asked_told}
use Rattle.sshc_wire.proofs.ToldChannels.{channel_told}
use Rattle.sshc_wire.proofs.ToldOpens.{answer_told, opened_told}

pub told : (output : Record) → Fits output → IsTold output
unfolding record_of
told (Payload packet) fits = refl
told BeginExchange fits = refl
told Opened fits = refl
told (Resolved ticket resolution) fits = resolved_told ticket resolution fits.0 fits.1
told (Auth ticket asked) fits = asked_told ticket asked fits.0 fits.1
told (KexDone kex) fits = rw (last_string kex fits) refl
told (AuthBanner banner) fits = rw (last_string banner fits) refl
told (Channel id happened) fits = channel_told id happened fits.0 fits.1
told (ServerOpened id opened) fits = opened_told id opened fits.0 fits.1
told (HostKeysAnnounced keys) fits = rw (last_strings keys fits.0 fits.1) refl
told (Agent conn answer) fits = answer_told conn answer fits.0 fits.1
