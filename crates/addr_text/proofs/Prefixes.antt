-- Printed prefixes and addresses are read again.
use Rattle.std.proofs.Common.{◌≡◌, ℕ, ◌-◌, ◌%◌, ◌^◌, ◌<◌, ◌≤◌, true, List, ◌∷◌, ◌++◌, Option, Some, None, Ok, Err, refl, ap, ◌∙◌, arith}
use Rattle.std.specs.Prelude.{◌==◌, if◌then◌else◌}
use Rattle.std.proofs.lemmas.Bool.Decides.{nat_tests}
use Rattle.addr_text.specs.declared.Address.TheVariants.{V4, V6}
use Rattle.addr_text.specs.declared.Prefix4.{Prefix4}
use Rattle.addr_text.specs.declared.Prefix6.{Prefix6}
use Rattle.addr_text.specs.declared.TextFault.TheVariants.{HostBits}
use Rattle.addr_text.specs.AddressGrammar.{decimal, parts, address_and_length, and_length, v4_bits, v6_bits, as_v4, as_v6, as_address, v4_prefix, v6_prefix, address}
use Rattle.addr_text.specs.Printed.{decimal_text, digits_in, v4_text, v6_text, v4_prefix_text, v6_prefix_text, address_text}
use Rattle.addr_text.proofs.Again.{Lacks, slash_is_mark, decimal_lacks, decimal_again, joined_lacks, parts_one, parts_two, v4_again}
use Rattle.addr_text.proofs.GroupsAgain.{v6_again, v6_lacks, v6_is_no_v4}

slashed_again : (read : List ℕ → Option ℕ) (most : ℕ) (text : List ℕ) (bits len : ℕ) → Lacks 47 text → read text ≡ Some bits → len ≤ most → most < 1000 → address_and_length read most (parts 47 (text ++ 47 ∷ decimal_text len)) ≡ Some (bits, len)
slashed_again read most text bits len lacks again within few =
    ap (address_and_length read most) (parts_two 47 text (decimal_text len) lacks ∙ ap (λ ps. text ∷ ps) (parts_one 47 (decimal_text len) (decimal_lacks 47 slash_is_mark len)))
    ∙ ap (λ o. and_length o (decimal most (decimal_text len))) again
    ∙ ap (and_length (Some bits)) (decimal_again most len (omega arith) within)

clear : (n : ℕ) → n ≡ 0 → (n == 0) ≡ true
clear n e = grind (arith, nat_tests)

v4_lacks : (bits : ℕ) → Lacks 47 (v4_text bits)
unfolding v4_text
v4_lacks bits = joined_lacks 47 46 decimal_text refl (decimal_lacks 47 slash_is_mark) (digits_in 256 4 bits)

pub v4_prefix_again : (p : Prefix4) → p.bits < 2 ^ 32 → p.len ≤ 32 → p.bits % 2 ^ (32 - p.len) ≡ 0 → v4_prefix (v4_prefix_text p) ≡ Ok p
unfolding v4_prefix
v4_prefix_again p fits within none =
    ap as_v4 (slashed_again v4_bits 32 (v4_text p.bits) p.bits p.len (v4_lacks p.bits) (v4_again p.bits fits) within (omega arith))
    ∙ ap (λ b. if b then Ok p else Err HostBits) (clear (p.bits % 2 ^ (32 - p.len)) none)

pub v6_prefix_again : (p : Prefix6) → p.bits < 2 ^ 128 → p.len ≤ 128 → p.bits % 2 ^ (128 - p.len) ≡ 0 → v6_prefix (v6_prefix_text p) ≡ Ok p
unfolding v6_prefix
v6_prefix_again p fits within none =
    ap as_v6 (slashed_again v6_bits 128 (v6_text p.bits) p.bits p.len (v6_lacks 47 refl slash_is_mark p.bits) (v6_again p.bits fits) within (omega arith))
    ∙ ap (λ b. if b then Ok p else Err HostBits) (clear (p.bits % 2 ^ (128 - p.len)) none)

pub v4_address_again : (bits : ℕ) → bits < 2 ^ 32 → address (address_text (V4 bits)) ≡ Ok (V4 bits)
unfolding address
v4_address_again bits fits = ap (λ o. as_address o (v6_bits (v4_text bits))) (v4_again bits fits)

pub v6_address_again : (bits : ℕ) → bits < 2 ^ 128 → address (address_text (V6 bits)) ≡ Ok (V6 bits)
unfolding address
v6_address_again bits fits = ap (λ o. as_address o (v6_bits (v6_text bits))) (v6_is_no_v4 bits) ∙ ap (as_address None) (v6_again bits fits)
