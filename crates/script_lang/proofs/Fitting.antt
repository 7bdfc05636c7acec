-- Fits of several parts.
use Rattle.std.proofs.Common.{◌≡◌, refl}
use Rattle.script_lang.specs.declared.fit.Fit.{Fit}
use Rattle.script_lang.specs.declared.fit.Fit.TheVariants.{Fits, TooGreat, Unlike}
use Rattle.script_lang.specs.Forms.{both}

pub both_assoc : (a b c : Fit) → both (both a b) c ≡ both a (both b c)
both_assoc Fits b c = refl
both_assoc TooGreat Fits Fits = refl
both_assoc TooGreat Fits TooGreat = refl
both_assoc TooGreat Fits Unlike = refl
both_assoc TooGreat TooGreat Fits = refl
both_assoc TooGreat TooGreat TooGreat = refl
both_assoc TooGreat TooGreat Unlike = refl
both_assoc TooGreat Unlike c = refl
both_assoc Unlike b c = refl

pub both_fits : (a : Fit) → both a Fits ≡ a
both_fits Fits = refl
both_fits TooGreat = refl
both_fits Unlike = refl
