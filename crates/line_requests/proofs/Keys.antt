-- A key at the front of a word.
use Rattle.std.proofs.Common.{◌≡◌, ◌≢◌, ℕ, List, ◌++◌, Some, None, Bool, true, false, refl, sym, ap, ◌∙◌, take, drop, length, if◌then◌else◌}
use Rattle.std.proofs.lemmas.List.{take-append-drop}
use Rattle.std.proofs.Math.Seq.{take-append_seam, drop-append_seam}
use Rattle.std.specs.Str.{bytes_eq}
use Rattle.std.proofs.lemmas.Slice.Eq.{bytes_eq-Decides}
use Rattle.script_lang.specs.Forms.{behind_key}

none_by : (key word : List ℕ) (b : Bool) → b ≡ bytes_eq (take (length key) word) key → ((rest : List ℕ) → word ≢ key ++ rest) → None ≡ (if b then Some (drop (length key) word) else None)
none_by key word true e fails =
    let same : take (length key) word ≡ key = (bytes_eq-Decides (take (length key) word) key).0 (sym e) in
    absurd (fails (drop (length key) word) (sym (take-append-drop (length key) word) ∙ ap (λ (x : List ℕ). x ++ drop (length key) word) same))
none_by key word false e fails = refl

pub not_there : (key word : List ℕ) → ((rest : List ℕ) → word ≢ key ++ rest) → None ≡ behind_key key word
not_there key word fails = none_by key word _ refl fails

pub there : (key rest : List ℕ) → Some rest ≡ behind_key key (key ++ rest)
there key rest =
    let front : take (length key) (key ++ rest) ≡ key = take-append_seam key rest in
    let back : drop (length key) (key ++ rest) ≡ rest = drop-append_seam key rest in
    rw (front, back, (bytes_eq-Decides key key).1 refl) refl

pub there_at : (key word rest : List ℕ) → word ≡ key ++ rest → Some rest ≡ behind_key key word
there_at key word rest e = there key rest ∙ ap (behind_key key) (sym e)
