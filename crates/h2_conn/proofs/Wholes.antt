-- Whether the first message of a request is whole, by its first five bytes and its length.
use Rattle.std.proofs.Common.{◌≡◌, ℕ, zero, suc, ◌+◌, ◌*◌, ◌<◌, min, Bool, true, false, ◌&&◌, List, [], ◌∷◌, ◌++◌, ◌-◌, length, length-append, zero-add, take, drop, Option, Some, None, refl, sym, ap, ◌∙◌, arith}
use Rattle.std.proofs.lemmas.List.Sums.{fold-append}
use Rattle.std.specs.Prelude.{not, fold, nat_lt, nat_le, ◌==◌, if◌then◌else◌}
use Rattle.std.specs.Int.{w32, from_be_bytes}
use Rattle.std.proofs.lemmas.Bool.Decides.{nat_tests}
use Rattle.grpc_framing.specs.declared.front.Front.{Front}
use Rattle.grpc_framing.specs.declared.front.Front.TheVariants.{Message, NeedMore, Compressed, TooLong}
use Rattle.grpc_framing.specs.Framing.{Messages, messages_of, messages_upto, front_at, item_at, first_of}
use Rattle.h2_conn.specs.declared.asked.Asked.{Asked}
use Rattle.h2_conn.specs.Watching.{IsAsked, is_whole, word_of, counted_of, asked_with}

abbrev is_message : Front → Bool
is_message (Message n) = true
is_message other = false

one_more : (n : ℕ) → nat_lt 0 (suc n) ≡ true
one_more n = grind (arith, nat_tests)

by_front : (others : List ℕ → Messages) (bytes : List ℕ) (r : Front) → nat_lt 0 (length (first_of others bytes r).messages) ≡ is_message r
by_front others bytes (Message n) = one_more (length (others (drop (5 + n) bytes)).messages)
by_front others bytes NeedMore = refl
by_front others bytes Compressed = refl
by_front others bytes TooLong = refl

has_by : (flag : ℕ) (bs : List ℕ) → nat_lt 0 (length (messages_of 4194304 (flag ∷ bs)).messages) ≡ is_message (front_at 4194304 (flag ∷ bs))
unfolding messages_of messages_upto
has_by flag bs = by_front (messages_upto (length bs) 4194304) (flag ∷ bs) (front_at 4194304 (flag ∷ bs))

has_none : nat_lt 0 (length (messages_of 4194304 []).messages) ≡ false
unfolding messages_of messages_upto
has_none = refl

pick : (z s t u : Bool) (n : ℕ) → is_message (if z then (if s then NeedMore else if t then TooLong else if u then NeedMore else Message n) else Compressed) ≡ (z && not s && not t && not u)
pick false s t u n = refl
pick true true t u n = refl
pick true false true u n = refl
pick true false false true n = refl
pick true false false false n = refl

short_count : (count : ℕ) (a b : Bool) → count < 5 → false ≡ (nat_le 5 count && a && b)
short_count count a b lt = ap (λ (t : Bool). t && a && b) (below count lt)
  where
    below : (n : ℕ) → n < 5 → false ≡ nat_le 5 n
    below n small = grind (arith, nat_tests)

decide : (flag n long len word count : ℕ) → long ≡ 4 + len → word ≡ min (flag * 4294967296 + n) 18446744073709551615 → count ≡ min (5 + len) 4194309 →
    (flag == 0 && not (nat_lt long 4) && not (nat_lt 4194304 n) && not (nat_lt len n)) ≡ (nat_le 5 count && nat_le word 4194304 && nat_le (5 + word) count)
decide flag n long len word count l e c = grind (arith, nat_tests)

never : (z : Bool) → (z && false && true && true) ≡ false
never true = refl
never false = refl

too_short : (flag word count : ℕ) → count < 5 → (flag == 0 && false && true && true) ≡ (nat_le 5 count && nat_le word 4194304 && nat_le (5 + word) count)
too_short flag word count lt = never (flag == 0) ∙ short_count count (nat_le word 4194304) (nat_le (5 + word) count) lt

by_length : (flag : ℕ) (bs : List ℕ) (word count : ℕ) → word ≡ min (word_of (flag ∷ bs)) 18446744073709551615 → count ≡ counted_of (flag ∷ bs) → is_message (front_at 4194304 (flag ∷ bs)) ≡ (nat_le 5 count && nat_le word 4194304 && nat_le (5 + word) count)
unfolding front_at item_at
by_length flag [] word count e c = pick (flag == 0) true false false 0 ∙ too_short flag word count (omega (arith, c))
by_length flag (p ∷ []) word count e c = pick (flag == 0) true false false 0 ∙ too_short flag word count (omega (arith, c))
by_length flag (p ∷ q ∷ []) word count e c = pick (flag == 0) true false false 0 ∙ too_short flag word count (omega (arith, c))
by_length flag (p ∷ q ∷ r ∷ []) word count e c = pick (flag == 0) true false false 0 ∙ too_short flag word count (omega (arith, c))
by_length flag (p ∷ q ∷ r ∷ s ∷ rest) word count e c =
    let n = from_be_bytes w32 (p ∷ q ∷ r ∷ s ∷ []) in
    pick (flag == 0) (nat_lt (length (p ∷ q ∷ r ∷ s ∷ rest)) 4) (nat_lt 4194304 n) (nat_lt (length rest) n) n
    ∙ decide flag n (length (p ∷ q ∷ r ∷ s ∷ rest)) (length rest) word count (omega arith) (omega (arith, e)) (omega (arith, c))

pub whole_says : (bytes : List ℕ) (o : Option Asked) → IsAsked bytes o → nat_lt 0 (length (messages_of 4194304 bytes).messages) ≡ is_whole o
whole_says bytes None h = ap (λ (b : List ℕ). nat_lt 0 (length (messages_of 4194304 b).messages)) h ∙ has_none
whole_says [] (Some a) h = has_none ∙ short_count a.count (nat_le a.word 4194304) (nat_le (5 + a.word) a.count) (omega (arith, h.1))
whole_says (flag ∷ bs) (Some a) h = has_by flag bs ∙ by_length flag bs a.word a.count h.0 h.1

-- ---- more bytes

abbrev most : ℕ
most = 18446744073709551615

abbrev plain : List ℕ → ℕ → ℕ
plain bytes word = fold (λ w b. w * 256 + b) word bytes

abbrev kept : List ℕ → ℕ → ℕ
kept bytes word = fold (λ w b. min (min (w * 256) 18446744073709551615 + b) 18446744073709551615) word bytes

one : (word now b : ℕ) → now ≡ min word most → min (min (now * 256) most + b) most ≡ min (word * 256 + b) most
one word now b e = grind arith

kept_is : (bytes : List ℕ) (word now : ℕ) → now ≡ min word most → kept bytes now ≡ min (plain bytes word) most
kept_is [] word now e = e
kept_is (b ∷ bytes) word now e = kept_is bytes (word * 256 + b) (min (min (now * 256) most + b) most) (one word now b e)

take_nil : (k : ℕ) → take {A = ℕ} k [] ≡ []
take_nil zero = refl
take_nil (suc k) = refl

same_take : (n m : ℕ) (ys : List ℕ) → n ≡ m → take n ys ≡ take m ys
same_take n m ys e = ap (λ (k : ℕ). take k ys) e

take_both : (n : ℕ) (xs ys : List ℕ) → take n (xs ++ ys) ≡ take n xs ++ take (n - length xs) ys
take_both n [] ys = let e : n ≡ n - 0 = omega arith in same_take n (n - 0) ys e ∙ ap (λ (l : List ℕ). l ++ take (n - 0) ys) (sym (take_nil n))
take_both zero (x ∷ xs) ys = let e : 0 ≡ 0 - length (x ∷ xs) = omega arith in same_take 0 (0 - length (x ∷ xs)) ys e
take_both (suc n) (x ∷ xs) ys =
    let e : n - length xs ≡ suc n - length (x ∷ xs) = omega arith in
    ap (λ (l : List ℕ). x ∷ l) (take_both n xs ys) ∙ ap (λ (l : List ℕ). x ∷ (take n xs ++ l)) (same_take (n - length xs) (suc n - length (x ∷ xs)) ys e)

word_more : (bytes more : List ℕ) → word_of (bytes ++ more) ≡ plain (take (5 - length bytes) more) (word_of bytes)
word_more bytes more = ap (λ (l : List ℕ). plain l 0) (take_both 5 bytes more) ∙ fold-append (λ w b. w * 256 + b) 0 (take 5 bytes) (take (5 - length bytes) more)

left_same : (n c : ℕ) → c ≡ min n 4194309 → 5 - c ≡ 5 - n
left_same n c e = grind arith

count_more : (n c k : ℕ) → c ≡ min n 4194309 → min (c + k) 4194309 ≡ min (n + k) 4194309
count_more n c k e = grind arith

-- bytes behind those that stood on a request
pub asked_more : (id : ℕ) (bytes more : List ℕ) (o : Option Asked) → IsAsked bytes o → IsAsked (bytes ++ more) (Some (asked_with id more o))
asked_more id bytes more None h = (
  kept_is (take 5 more) 0 0 refl ∙ ap (λ (l : List ℕ). min (word_of l) most) (sym (ap (λ (b : List ℕ). b ++ more) h)),
  ap (λ (n : ℕ). min n 4194309) (zero-add (length more)) ∙ ap (λ (l : List ℕ). counted_of l) (sym (ap (λ (b : List ℕ). b ++ more) h)),
)
asked_more id bytes more (Some a) h = (
  kept_is (take (5 - a.count) more) (word_of bytes) a.word h.0
      ∙ ap (λ (k : ℕ). min (plain (take k more) (word_of bytes)) most) (left_same (length bytes) a.count h.1) ∙ ap (λ (w : ℕ). min w most) (sym (word_more bytes more)),
  count_more (length bytes) a.count (length more) h.1 ∙ ap (λ (k : ℕ). min k 4194309) (sym (length-append bytes more)),
)
