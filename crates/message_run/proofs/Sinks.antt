-- What a sink holds after one piece more.
use Rattle.std.proofs.Common.{◌≡◌, ℕ, List, [], ◌++◌, take, drop, Option, Some, None, refl, sym, ap, ◌∙◌, append_assoc}
use Rattle.std.specs.Option.{option_map}
use Rattle.std.proofs.lemmas.List.{append-nil, take-append-drop}
use Rattle.std.proofs.Common.{inl, inr}
use Rattle.rig_io.specs.Fault.{StaysUnless}
use Rattle.message_run.specs.Written.{Wrote, WrotePart}

pub wrote_nothing : (o : Option (List ℕ)) → Wrote o [] o
wrote_nothing None = refl
wrote_nothing (Some held) = ap Some (sym (append-nil held))

pub wrote_more : (a b c : Option (List ℕ)) (v w : List ℕ) → Wrote a v b → Wrote b w c → Wrote a (v ++ w) c
wrote_more None b c v w p q = q ∙ ap (option_map (λ (held : List ℕ). held ++ w)) p
wrote_more (Some held) b c v w p q = q ∙ ap (option_map (λ (held : List ℕ). held ++ w)) p ∙ ap Some (append_assoc held v w)

-- the piece is what was written and a rest
pub record IsPutting (before now : Option (List ℕ)) (piece rest : List ℕ) : Type 0 where
  pub written : List ℕ
  pub parts : piece ≡ written ++ rest
  pub wrote : Wrote before written now

pub putting_all : (o : Option (List ℕ)) (piece : List ℕ) → IsPutting o o piece piece
putting_all o piece = record { written = []; parts = refl; wrote = wrote_nothing o }

pub putting_more : (before now next : Option (List ℕ)) (piece rest : List ℕ) (n : ℕ) → IsPutting before now piece rest → Wrote now (take n rest) next → IsPutting before next piece (drop n rest)
putting_more before now next piece rest n h w = record {
  written = h.written ++ take n rest;
  parts = h.parts ∙ ap (λ (x : List ℕ). h.written ++ x) (sym (take-append-drop n rest)) ∙ sym (append_assoc h.written (take n rest) (drop n rest));
  wrote = wrote_more before now next h.written (take n rest) h.wrote w;
}

pub putting_part : (before now after : Option (List ℕ)) (piece rest : List ℕ) → IsPutting before now piece rest → after ≡ now → WrotePart before piece after
putting_part before now after piece rest h same = record { written = h.written; others = rest; parts = h.parts; wrote = same ∙ h.wrote }

pub put_whole : (before now : Option (List ℕ)) (piece rest : List ℕ) → IsPutting before now piece rest → rest ≡ [] → Wrote before piece now
put_whole before now piece rest h none =
    let all : h.written ≡ piece = sym (h.parts ∙ ap (λ (x : List ℕ). h.written ++ x) none ∙ append-nil h.written) in
    h.wrote ∙ ap (λ (w : List ℕ). option_map (λ (held : List ℕ). held ++ w) before) all

-- nothing was to be written
pub wrote_none : (o : Option (List ℕ)) → WrotePart o [] o
wrote_none o = record { written = []; others = []; parts = refl; wrote = wrote_nothing o }

-- all of it was written
pub wrote_whole : (before after : Option (List ℕ)) (bytes : List ℕ) → Wrote before bytes after → WrotePart before bytes after
wrote_whole before after bytes w = record { written = bytes; others = []; parts = sym (append-nil bytes); wrote = w }

-- a front of the bytes is one of more of them
pub part_more : (before after : Option (List ℕ)) (bytes more : List ℕ) → WrotePart before bytes after → WrotePart before (bytes ++ more) after
part_more before after bytes more w = record { written = w.written; others = w.others ++ more; parts = ap (λ (x : List ℕ). x ++ more) w.parts ∙ append_assoc w.written w.others more; wrote = w.wrote }

-- a count stays where there is no failure
pub stayed : (before now : ℕ) (P : Type 0) → StaysUnless before now P → (P → ⊥) → now ≡ before
stayed before now P (inl failed) none = absurd (none failed)
stayed before now P (inr same) none = same
