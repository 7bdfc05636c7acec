-- A next hop that is read option by option.
use Rattle.std.proofs.Common.{◌≡◌, ℕ, List, refl}
use Rattle.std.specs.Prelude.{codes, Option}
use Rattle.std.specs.Option.{option_map}
use Rattle.script_lang.specs.Forms.{option_at, rest_at}
use Rattle.aft_entries.specs.declared.operation.RawHop.{RawHop}
use Rattle.line_requests.specs.Entries.{first_of, hop, labels_at, number_at, second_of, tunnel}

pub hop_is :
    (words w1 w2 w3 w4 w5 : List (List ℕ)) (ip mac interface source target : Option (List ℕ)) (subinterface : Option ℕ) (push : List (Option ℕ))
    → w1 ≡ rest_at (codes "ip=") words → w2 ≡ rest_at (codes "mac=") w1 → w3 ≡ rest_at (codes "interface=") w2
    → w4 ≡ rest_at (codes "subinterface=") w3 → w5 ≡ rest_at (codes "ipip=") w4
    → ip ≡ option_at (codes "ip=") words → mac ≡ option_at (codes "mac=") w1 → interface ≡ option_at (codes "interface=") w2
    → subinterface ≡ number_at (codes "subinterface=") w3 → source ≡ option_map first_of (tunnel w4) → target ≡ option_map second_of (tunnel w4)
    → push ≡ labels_at w5
    → ◌≡◌ {A = RawHop}
    (record { ip = ip; mac = mac; interface = interface; subinterface = subinterface; source = source; target = target; push = push })
    (hop words)
unfolding hop
hop_is words w1 w2 w3 w4 w5 ip mac interface source target subinterface push e1 e2 e3 e4 e5 f1 f2 f3 f4 f5 f6 f7 =
    rw (f1, f2, f3, f4, f5, f6, f7, e5, e4, e3, e2, e1) refl
