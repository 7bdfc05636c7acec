-- What a connection learns as its reader is fed.
use Rattle.std.proofs.Common.{◌≡◌, ℕ, Bool, true, false, List, [], ◌++◌, None, refl, sym, ap, ◌∙◌}
use Rattle.std.specs.Prelude.{is_some, if◌then◌else◌}
use Rattle.h2_frames.specs.Reader.{Reader}
use Rattle.h2_frames.specs.Stream.{fed}

kept : (b : Bool) (r s : Reader) → r.refusal ≡ s.refusal → (if b then r else s).refusal ≡ r.refusal
kept true r s e = refl
kept false r s e = sym e

-- a piece leaves a refusal as it was
pub fed_alive : (r new : Reader) (piece : List ℕ) → new ≡ fed r piece → r.refusal ≡ None → new.refusal ≡ None
fed_alive r new piece e h =
    ap (λ (x : Reader). x.refusal) e ∙ kept (is_some r.refusal) r (record { awaited = r.awaited; held = r.held ++ piece; place = r.place; refusal = r.refusal }) refl ∙ h
