-- Parts of header blocks.
use Rattle.std.proofs.Common.{◌≡◌, ℕ, ◌+◌, ◌-◌, ◌≤◌, min, Bool, true, false, List, [], ◌∷◌, ◌++◌, refl, length, length-append, drop, ap, ◌∙◌, arith}
use Rattle.std.specs.Prelude.{fold, nat_lt, sum_by}
use Rattle.h2_frames.specs.declared.frame.Frame.{Frame}
use Rattle.h2_frames.specs.Layout.{body_of}
use Rattle.h2_exchange.specs.Blocks.{data_of, unpadded}
use Rattle.h2_exchange.specs.Frames.{has_padding, payload_of}
use Rattle.hpack_tables.specs.EntrySizes.{size_of}
use Rattle.hpack_tables.specs.declared.field.Field.{Field}
use Rattle.h2_conn.specs.HeaderParts.{grown}
use Rattle.std.proofs.lemmas.List.{drop_min, length-take}

pub drop_five : (xs : List ℕ) → drop (min (length xs) 5) xs ≡ drop 5 xs
drop_five xs = ap (λ (n : ℕ). drop n xs) (turned (length xs) 5) ∙ drop_min 5 xs
  where
    turned : (a b : ℕ) → min a b ≡ min b a
    turned a b = omega arith

pub longer : (xs ys : List ℕ) → nat_lt 65536 (length (xs ++ ys)) ≡ nat_lt 65536 (length xs + length ys)
longer xs ys = ap (nat_lt 65536) (length-append xs ys)

sums_grow : (n : ℕ) (xs : List Field) → n ≤ fold (λ m f. m + size_of f) n xs
sums_grow n [] = omega arith
sums_grow n (x ∷ xs) = let h = sums_grow (n + size_of x) xs in omega (arith, h)

grown_from : (n : ℕ) (xs : List Field) → fold (λ m f. m + size_of f) n xs ≤ 65536 → fold grown n xs ≡ fold (λ m f. m + size_of f) n xs
grown_from n [] small = refl
grown_from n (x ∷ xs) small =
    let low = sums_grow (n + size_of x) xs in
    let here : grown n x ≡ n + size_of x = omega (arith, low, small) in
    ap (λ (m : ℕ). fold grown m xs) here ∙ grown_from (n + size_of x) xs small

pub grown_list : (xs : List Field) → sum_by size_of xs ≤ 65536 → fold grown 0 xs ≡ sum_by size_of xs
grown_list xs small = grown_from 0 xs small

-- ---- data

unpadded_small : (t : Bool) (payload : List ℕ) → length payload ≤ 16384 → length (unpadded t payload) ≤ 16384
unpadded_small false payload small = small
unpadded_small true [] small = omega arith
unpadded_small true (n ∷ payload) small = omega (arith, small, length-take (length payload - n) payload)

pub small_data : (f : Frame) → length (data_of f) ≤ 16384
small_data f = unpadded_small (has_padding f) (payload_of f) (body_of f).payload_in_range
