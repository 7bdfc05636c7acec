-- Settings, read one after another.
use Rattle.std.proofs.Common.{◌≡◌, ℕ, ◌*◌, ◌+◌, List, ◌∷◌, drop, ap, ◌∙◌, arith}
use Rattle.std.specs.Prelude.{◌==◌, if◌then◌else◌}
use Rattle.hpack_tables.specs.Writing.{Encoder, limited}
use Rattle.h2_exchange.specs.Windows.{settings_of}
use Rattle.h2_conn.specs.Sizes.{limited_over}
pub use Rattle.h2_streams.proofs.SettingsRead.{setting_here, last_setting}

pub passes : (xs : List ℕ) (i : ℕ) (first now next : Encoder) (s : ℕ × ℕ) → first ≡ limited_over (settings_of (drop (6 * i) xs)) now → settings_of (drop (6 * i) xs) ≡ s ∷ settings_of (drop (6 * i + 6) xs) →
    next ≡ (if s.0 == 1 then limited s.1 now else now) → first ≡ limited_over (settings_of (drop (6 * (i + 1)) xs)) next
passes xs i first now next s h e n =
    let more : 6 * i + 6 ≡ 6 * (i + 1) = omega arith in
    h ∙ ap (λ (l : List (ℕ × ℕ)). limited_over l now) e ∙ ap (λ (k : ℕ). limited_over (settings_of (drop k xs)) (if s.0 == 1 then limited s.1 now else now)) more
    ∙ ap (limited_over (settings_of (drop (6 * (i + 1)) xs))) (let r : (if s.0 == 1 then limited s.1 now else now) ≡ next = cc in r)
