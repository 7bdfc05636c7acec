-- Printed groups are read again.
use Rattle.std.proofs.Common.{◌≡◌, ℕ, suc, zero, ◌+◌, ◌-◌, ◌/◌, ◌%◌, ◌^◌, ◌<◌, Bool, true, false, List, [], ◌∷◌, ◌++◌, Option, Some, None, refl, sym, ap, ◌∙◌, append_assoc, map, length, length-append, take, drop, arith}
use Rattle.std.specs.Prelude.{option_map, ◌==◌, ◌&&◌, ◌||◌, nat_lt, if◌then◌else◌, replicate}
use Rattle.std.specs.List.{list_any}
use Rattle.std.proofs.lemmas.Bool.Decides.{nat_tests}
use Rattle.std.proofs.lemmas.Nat.{mod_below}
use Rattle.addr_text.specs.AddressGrammar.{in_base, hextet, parts, at_double_colon, behind, is_dotted, two_groups, v4_bits, last_groups, and_groups, groups, side, whole, compressed, v6_split, v6_bits, quad}
use Rattle.addr_text.specs.Printed.{hex_text, digits_in, longest, place_of, colons, compressed_text, groups_text, v6_text}
use Rattle.addr_text.proofs.Scanning.{append-nil, behind_all, gap_start}
use Rattle.addr_text.proofs.Grouping.{length-zeros}
use Rattle.addr_text.proofs.Longest.{split_run}
use Rattle.addr_text.proofs.Again.{Mark, point_is_mark, colon_is_mark, AllBelow, hextet_again, Lacks, lacks_if, lacks_append, hex_lacks, joined_lacks, parts_one, parts_joined, digits_again}

-- The first `::`

-- the text begins, and not with a colon
abbrev Opens : List ℕ → Type 0
Opens [] = ⊥
Opens (d ∷ text) = (d == 58) ≡ false

opens_if : (b : Bool) (one other : List ℕ) → Opens one → Opens other → Opens (if b then one else other)
opens_if true one other h k = h
opens_if false one other h k = k

opens_append : (one other : List ℕ) → Opens one → Opens (one ++ other)
opens_append [] other h = absurd h
opens_append (d ∷ one) other h = h

hex_opens : (n : ℕ) → Opens (hex_text n)
hex_opens n =
    opens_if (nat_lt n 16) _ _ (colon_is_mark n) (opens_if (nat_lt n 256) _ _ (colon_is_mark (n / 16)) (opens_if (nat_lt n 4096) _ _ (colon_is_mark (n / 256)) (colon_is_mark (n / 4096))))

colons_open : (g : ℕ) (gs : List ℕ) → Opens (colons (g ∷ gs))
colons_open g [] = hex_opens g
colons_open g (h ∷ gs) = opens_append (hex_text g) (58 ∷ colons (h ∷ gs)) (hex_opens g)

gap_later : (c : ℕ) (text : List ℕ) → (c == 58) ≡ false → at_double_colon (c ∷ text) ≡ behind c (at_double_colon text)
gap_later c [] other = refl
gap_later c (d ∷ text) other = ap (λ b. if b && d == 58 then Some ([], text) else behind c (at_double_colon (d ∷ text))) other

gap_led : (text : List ℕ) → Opens text → at_double_colon (58 ∷ text) ≡ behind 58 (at_double_colon text)
gap_led [] h = absurd h
gap_led (d ∷ text) h = ap (λ b. if b then Some ([], text) else behind 58 (at_double_colon (d ∷ text))) h

behind_front : (c : ℕ) (front : List ℕ) (o : Option (List ℕ × List ℕ)) → behind c (behind_all front o) ≡ behind_all (c ∷ front) o
behind_front c front None = refl
behind_front c front (Some halves) = refl

behind_both : (one other : List ℕ) (o : Option (List ℕ × List ℕ)) → behind_all one (behind_all other o) ≡ behind_all (one ++ other) o
behind_both one other None = refl
behind_both one other (Some halves) = ap (λ front. Some (front, halves.1)) (sym (append_assoc one other halves.0))

gap_behind : (front text : List ℕ) → Lacks 58 front → at_double_colon (front ++ text) ≡ behind_all front (at_double_colon text)
gap_behind [] text h = gap_start (at_double_colon text)
gap_behind (c ∷ front) text h =
    gap_later c (front ++ text) h.0 ∙ ap (behind c) (gap_behind front text h.1) ∙ behind_front c front (at_double_colon text)

hex_free : (n : ℕ) → Lacks 58 (hex_text n)
hex_free n = hex_lacks 58 colon_is_mark n

gap_colons : (gs more : List ℕ) → at_double_colon (colons gs ++ more) ≡ behind_all (colons gs) (at_double_colon more)
gap_colons [] more = gap_start (at_double_colon more)
gap_colons (g ∷ []) more = gap_behind (hex_text g) more (hex_free g)
gap_colons (g ∷ h ∷ gs) more =
    let others = colons (h ∷ gs) in
    ap at_double_colon (append_assoc (hex_text g) (58 ∷ others) more)
    ∙ gap_behind (hex_text g) (58 ∷ (others ++ more)) (hex_free g)
    ∙ ap (behind_all (hex_text g)) (gap_led (others ++ more) (opens_append others more (colons_open h gs)) ∙ ap (behind 58) (gap_colons (h ∷ gs) more) ∙ behind_front 58 others (at_double_colon more))
    ∙ behind_both (hex_text g) (58 ∷ others) (at_double_colon more)

-- One side

undotted : (text : List ℕ) → Lacks 46 text → is_dotted text ≡ false
undotted [] h = refl
undotted (c ∷ text) h = ap (λ b. b || list_any (λ c. c == 46) text) h.0 ∙ undotted text h.1

last_again : (tail : Bool) (g : ℕ) → g < 65536 → last_groups tail (hex_text g) ≡ Some (g ∷ [])
last_again tail g h =
    ap (λ b. if b then two_groups (v4_bits (hex_text g)) else option_map (λ n. n ∷ []) (hextet (hex_text g))) (by tail (undotted (hex_text g) (hex_lacks 46 point_is_mark g)))
    ∙ ap (option_map (λ n. n ∷ [])) (hextet_again g h)
  where
    by : (t : Bool) → is_dotted (hex_text g) ≡ false → (t && is_dotted (hex_text g)) ≡ false
    by true e = e
    by false e = refl

groups_again : (tail : Bool) (g : ℕ) (gs : List ℕ) → AllBelow 65536 (g ∷ gs) → groups tail (map hex_text (g ∷ gs)) ≡ Some (g ∷ gs)
groups_again tail g [] small = last_again tail g small.0
groups_again tail g (h ∷ gs) small =
    ap (λ o. and_groups o (groups tail (map hex_text (h ∷ gs)))) (hextet_again g small.0) ∙ ap (and_groups (Some g)) (groups_again tail h gs small.1)

side_open : (tail : Bool) (text : List ℕ) → Opens text → side tail text ≡ groups tail (parts 58 text)
side_open tail [] h = absurd h
side_open tail (d ∷ text) h = refl

side_again : (tail : Bool) (gs : List ℕ) → AllBelow 65536 gs → side tail (colons gs) ≡ Some gs
side_again tail [] small = refl
side_again tail (g ∷ gs) small =
    side_open tail (colons (g ∷ gs)) (colons_open g gs) ∙ ap (groups tail) (parts_joined 58 hex_text hex_free g gs) ∙ groups_again tail g gs small

-- Eight groups, with and without `::`

no_gap : (gs : List ℕ) → at_double_colon (colons gs) ≡ None
no_gap gs = ap at_double_colon (sym (append-nil (colons gs))) ∙ gap_colons gs []

whole_again : (gs : List ℕ) → AllBelow 65536 gs → length gs ≡ 8 → v6_bits (colons gs) ≡ Some (in_base 65536 gs)
unfolding v6_bits
whole_again [] small all = absurd (omega arith)
whole_again (g ∷ gs) small all =
    ap (v6_split (colons (g ∷ gs))) (no_gap (g ∷ gs))
    ∙ ap (λ ps. whole (groups true ps)) (parts_joined 58 hex_text hex_free g gs)
    ∙ ap whole (groups_again true g gs small)
    ∙ ap (λ n. if n == 8 then Some (in_base 65536 (g ∷ gs)) else None) all

fewer : (n : ℕ) → n < 8 → nat_lt n 8 ≡ true
fewer n h = grind (arith, nat_tests)

gap_again : (front back : List ℕ) (run : ℕ) → AllBelow 65536 front → AllBelow 65536 back → 0 < run → length front + length back + run ≡ 8 → v6_bits (colons front ++ 58 ∷ 58 ∷ colons back) ≡ Some (in_base 65536 (front ++ replicate run 0 ++ back))
unfolding v6_bits
gap_again front back run fs bs some all =
    let text = colons front ++ 58 ∷ 58 ∷ colons back in
    let few : length front + length back < 8 = omega arith in
    let lack : 8 - (length front + length back) ≡ run = omega arith in
    ap (v6_split text) (gap_colons front (58 ∷ 58 ∷ colons back) ∙ ap (λ f. Some (f, colons back)) (append-nil (colons front)))
    ∙ ap (λ o. compressed o (side true (colons back))) (side_again false front fs)
    ∙ ap (compressed (Some front)) (side_again true back bs)
    ∙ ap (λ b. if b then Some (in_base 65536 (front ++ replicate (8 - (length front + length back)) 0 ++ back)) else None) (fewer (length front + length back) few)
    ∙ ap (λ n. Some (in_base 65536 (front ++ replicate n 0 ++ back))) lack

below_take : (base n : ℕ) (xs : List ℕ) → AllBelow base xs → AllBelow base (take n xs)
below_take base zero xs h = tt
below_take base (suc n) [] h = tt
below_take base (suc n) (x ∷ xs) h = (h.0, below_take base n xs h.1)

below_drop : (base n : ℕ) (xs : List ℕ) → AllBelow base xs → AllBelow base (drop n xs)
below_drop base zero xs h = h
below_drop base (suc n) [] h = tt
below_drop base (suc n) (x ∷ xs) h = below_drop base n xs h.1

at_least : (n : ℕ) → nat_lt n 2 ≡ false → 0 < n
at_least n h = grind (arith, nat_tests)

run_again : (gs : List ℕ) (place run : ℕ) → AllBelow 65536 gs → 0 < run → length gs ≡ 8 → gs ≡ take place gs ++ replicate run 0 ++ drop (place + run) gs → v6_bits (compressed_text place run gs) ≡ Some (in_base 65536 gs)
run_again gs place run small some all e =
    let front = take place gs in
    let back = drop (place + run) gs in
    let whole_length : length gs ≡ length front + run + length back = ap length e ∙ length-append (front ++ replicate run 0) back ∙ ap (λ n. n + length back) (length-append front (replicate run 0) ∙ ap (λ n. length front + n) (length-zeros run)) in
    gap_again front back run (below_take 65536 place gs small) (below_drop 65536 (place + run) gs small) some (omega arith)
    ∙ ap (λ xs. Some (in_base 65536 xs)) (sym e)

pub text_again : (gs : List ℕ) → AllBelow 65536 gs → length gs ≡ 8 → v6_bits (groups_text gs) ≡ Some (in_base 65536 gs)
unfolding groups_text
text_again gs small all = by (nat_lt (longest gs) 2) refl
  where
    by : (b : Bool) → nat_lt (longest gs) 2 ≡ b → v6_bits (if b then colons gs else compressed_text (place_of (longest gs) gs) (longest gs) gs) ≡ Some (in_base 65536 gs)
    by true h = whole_again gs small all
    by false h =
        let some = at_least (longest gs) h in
        run_again gs (place_of (longest gs) gs) (longest gs) small some all (split_run (longest gs) gs some refl)

-- The address

below_append : (base : ℕ) (xs ys : List ℕ) → AllBelow base xs → AllBelow base ys → AllBelow base (xs ++ ys)
below_append base [] ys h k = k
below_append base (x ∷ xs) ys h k = (h.0, below_append base xs ys h.1 k)

digits_below : (base count n : ℕ) → 0 < base → AllBelow base (digits_in base count n)
digits_below base zero n some = tt
digits_below base (suc count) n some = below_append base (digits_in base count (n / base)) (n % base ∷ []) (digits_below base count (n / base) some) (mod_below n base some, tt)

pub v6_again : (bits : ℕ) → bits < 2 ^ 128 → v6_bits (v6_text bits) ≡ Some bits
unfolding v6_text
v6_again bits h =
    text_again (digits_in 65536 8 bits) (digits_below 65536 8 bits (omega arith)) refl ∙ ap Some (digits_again 65536 8 bits (omega arith) h)

colons_lack : (c : ℕ) → (58 == c) ≡ false → Mark c → (gs : List ℕ) → Lacks c (colons gs)
colons_lack c other m gs = joined_lacks c 58 hex_text other (hex_lacks c m) gs

pub v6_lacks : (c : ℕ) → (58 == c) ≡ false → Mark c → (bits : ℕ) → Lacks c (v6_text bits)
unfolding v6_text groups_text
v6_lacks c other m bits =
    let gs = digits_in 65536 8 bits in
    let place = place_of (longest gs) gs in
    let front = take place gs in
    let back = drop (place + longest gs) gs in
    lacks_if c (nat_lt (longest gs) 2) (colons gs) (compressed_text place (longest gs) gs) (colons_lack c other m gs)
    (lacks_append c (colons front) (58 ∷ 58 ∷ colons back) (colons_lack c other m front) (other, (other, colons_lack c other m back)))

pub v6_is_no_v4 : (bits : ℕ) → v4_bits (v6_text bits) ≡ None
unfolding v4_bits
v6_is_no_v4 bits = ap quad (parts_one 46 (v6_text bits) (v6_lacks 46 refl point_is_mark bits))
