-- Payloads that are the same by the comparison are equal.
use Rattle.std.proofs.Common.{◌≡◌, ℕ, Bool, true, false, List, [], ◌∷◌, Option, Some, None, refl, sym, ap, ◌∙◌, ◌↔◌, arith}
use Rattle.std.specs.Prelude.{◌&&◌, ◌==◌, nat_eq}
use Rattle.std.proofs.lemmas.Bool.Decides.{nat_tests}
use Rattle.addr_text.specs.declared.Address.{Address}
use Rattle.addr_text.specs.declared.Address.TheVariants.{V4, V6}
use Rattle.aft_entries.specs.declared.entry.HopPayload.{HopPayload}
use Rattle.aft_entries.specs.declared.entry.GroupPayload.{GroupPayload}
use Rattle.aft_entries.specs.declared.entry.RoutePayload.{RoutePayload}
use Rattle.aft_entries.specs.declared.entry.Payload.{Payload}
use Rattle.aft_entries.specs.declared.entry.Payload.TheVariants.{Hop, Group, Route}
use Rattle.aft_entries.specs.declared.lists.Member.{Member}
use Rattle.aft_entries.specs.Same.{same_option, same_list, same_address, same_payload}

first : (a b : Bool) → a && b ≡ true → a ≡ true
first true b e = refl
first false b e = e

second : (a b : Bool) → a && b ≡ true → b ≡ true
second true b e = e
second false b e = cc

both : (a b : Bool) → a ≡ true → b ≡ true → a && b ≡ true
both true b e d = d
both false b e d = cc

-- Each test is true of equal things alone, and of equal things

number_to : (a b : ℕ) → nat_eq a b ≡ true → a ≡ b
number_to a b e = grind (arith, nat_tests)

number_from : (a : ℕ) → nat_eq a a ≡ true
number_from a = grind (arith, nat_tests)

option_to : {X : Type 0} (same : X → X → Bool) (to : (x y : X) → same x y ≡ true → x ≡ y) (a b : Option X) → same_option same a b ≡ true → a ≡ b
option_to same to None None e = refl
option_to same to None (Some y) e = cc
option_to same to (Some x) None e = cc
option_to same to (Some x) (Some y) e = ap (λ x. Some x) (to x y e)

option_from : {X : Type 0} (same : X → X → Bool) (from : (x : X) → same x x ≡ true) (a : Option X) → same_option same a a ≡ true
option_from same from None = refl
option_from same from (Some x) = from x

list_to : {X : Type 0} (same : X → X → Bool) (to : (x y : X) → same x y ≡ true → x ≡ y) (a b : List X) → same_list same a b ≡ true → a ≡ b
list_to same to [] [] e = refl
list_to same to [] (y ∷ ys) e = cc
list_to same to (x ∷ xs) [] e = cc
list_to same to (x ∷ xs) (y ∷ ys) e =
    ap (λ x. x ∷ xs) (to x y (first (same x y) (same_list same xs ys) e))
    ∙ ap (λ xs. y ∷ xs) (list_to same to xs ys (second (same x y) (same_list same xs ys) e))

list_from : {X : Type 0} (same : X → X → Bool) (from : (x : X) → same x x ≡ true) (a : List X) → same_list same a a ≡ true
list_from same from [] = refl
list_from same from (x ∷ xs) = both (same x x) (same_list same xs xs) (from x) (list_from same from xs)

address_to : (a b : Address) → same_address a b ≡ true → a ≡ b
address_to (V4 a) (V4 b) e = ap V4 (number_to a b e)
address_to (V4 a) (V6 b) e = cc
address_to (V6 a) (V4 b) e = cc
address_to (V6 a) (V6 b) e = ap V6 (number_to a b e)

address_from : (a : Address) → same_address a a ≡ true
address_from (V4 a) = number_from a
address_from (V6 a) = number_from a

abbrev same_member : Member → Member → Bool
same_member m n = m.hop == n.hop && m.weight == n.weight

member_with : ℕ → ℕ → Member
member_with hop weight = record { hop = hop; weight = weight }

member_to : (m n : Member) → same_member m n ≡ true → m ≡ n
unfolding member_with
member_to m n e =
    ap (λ hop. member_with hop m.weight) (number_to m.hop n.hop (first (m.hop == n.hop) (m.weight == n.weight) e))
    ∙ ap (λ weight. member_with n.hop weight) (number_to m.weight n.weight (second (m.hop == n.hop) (m.weight == n.weight) e))

member_from : (m : Member) → same_member m m ≡ true
member_from m = both (m.hop == m.hop) (m.weight == m.weight) (number_from m.hop) (number_from m.weight)

hop_with : Option Address → Option (List ℕ) → Option (List ℕ) → Option ℕ → Option Address → Option Address → List ℕ → HopPayload
hop_with ip mac interface subinterface source target push =
    record { ip = ip; mac = mac; interface = interface; subinterface = subinterface; source = source; target = target; push = push }

hop_to : (a b : HopPayload) → same_payload (Hop a) (Hop b) ≡ true → a ≡ b
unfolding same_payload hop_with
hop_to a b e =
    let t1 : Bool = same_option same_address a.ip b.ip in
    let t2 : Bool = same_option (same_list nat_eq) a.mac b.mac in
    let t3 : Bool = same_option (same_list nat_eq) a.interface b.interface in
    let t4 : Bool = same_option nat_eq a.subinterface b.subinterface in
    let t5 : Bool = same_option same_address a.source b.source in
    let t6 : Bool = same_option same_address a.target b.target in
    let t7 : Bool = same_list nat_eq a.push b.push in
    let u2 : Bool = t1 && t2 in
    let u3 : Bool = u2 && t3 in
    let u4 : Bool = u3 && t4 in
    let u5 : Bool = u4 && t5 in
    let u6 : Bool = u5 && t6 in
    let e6 = first u6 t7 e in
    let e5 = first u5 t6 e6 in
    let e4 = first u4 t5 e5 in
    let e3 = first u3 t4 e4 in
    let e2 = first u2 t3 e3 in
    let text_to = list_to nat_eq number_to in
    ap (λ x. hop_with x a.mac a.interface a.subinterface a.source a.target a.push) (option_to same_address address_to a.ip b.ip (first t1 t2 e2))
    ∙ ap (λ x. hop_with b.ip x a.interface a.subinterface a.source a.target a.push) (option_to (same_list nat_eq) text_to a.mac b.mac (second t1 t2 e2))
    ∙ ap (λ x. hop_with b.ip b.mac x a.subinterface a.source a.target a.push) (option_to (same_list nat_eq) text_to a.interface b.interface (second u2 t3 e3))
    ∙ ap (λ x. hop_with b.ip b.mac b.interface x a.source a.target a.push) (option_to nat_eq number_to a.subinterface b.subinterface (second u3 t4 e4))
    ∙ ap (λ x. hop_with b.ip b.mac b.interface b.subinterface x a.target a.push) (option_to same_address address_to a.source b.source (second u4 t5 e5))
    ∙ ap (λ x. hop_with b.ip b.mac b.interface b.subinterface b.source x a.push) (option_to same_address address_to a.target b.target (second u5 t6 e6))
    ∙ ap (λ x. hop_with b.ip b.mac b.interface b.subinterface b.source b.target x) (list_to nat_eq number_to a.push b.push (second u6 t7 e))

group_with : List Member → Option ℕ → GroupPayload
group_with members backup = record { members = members; backup = backup }

group_to : (a b : GroupPayload) → same_payload (Group a) (Group b) ≡ true → a ≡ b
unfolding same_payload group_with
group_to a b e =
    let t1 : Bool = same_list same_member a.members b.members in
    let t2 : Bool = same_option nat_eq a.backup b.backup in
    ap (λ members. group_with members a.backup) (list_to same_member member_to a.members b.members (first t1 t2 e))
    ∙ ap (λ backup. group_with b.members backup) (option_to nat_eq number_to a.backup b.backup (second t1 t2 e))

route_with : ℕ → ℕ → RoutePayload
route_with instance group = record { instance = instance; group = group }

route_to : (a b : RoutePayload) → same_payload (Route a) (Route b) ≡ true → a ≡ b
unfolding same_payload route_with
route_to a b e =
    let t1 : Bool = a.instance == b.instance in
    let t2 : Bool = a.group == b.group in
    ap (λ instance. route_with instance a.group) (number_to a.instance b.instance (first t1 t2 e))
    ∙ ap (λ group. route_with b.instance group) (number_to a.group b.group (second t1 t2 e))

payload_to : (a b : Payload) → same_payload a b ≡ true → a ≡ b
unfolding same_payload
payload_to (Hop a) (Hop b) e = ap Hop (hop_to a b e)
payload_to (Group a) (Group b) e = ap Group (group_to a b e)
payload_to (Route a) (Route b) e = ap Route (route_to a b e)
payload_to (Hop a) (Group b) e = cc
payload_to (Hop a) (Route b) e = cc
payload_to (Group a) (Hop b) e = cc
payload_to (Group a) (Route b) e = cc
payload_to (Route a) (Hop b) e = cc
payload_to (Route a) (Group b) e = cc

payload_from : (a : Payload) → same_payload a a ≡ true
unfolding same_payload
payload_from (Hop a) =
    both _ _ (both _ _ (both _ _ (both _ _ (both _ _ (both _ _
    (option_from same_address address_from a.ip)
    (option_from (same_list nat_eq) (list_from nat_eq number_from) a.mac))
    (option_from (same_list nat_eq) (list_from nat_eq number_from) a.interface))
    (option_from nat_eq number_from a.subinterface))
    (option_from same_address address_from a.source))
    (option_from same_address address_from a.target))
    (list_from nat_eq number_from a.push)
payload_from (Group a) = both _ _ (list_from same_member member_from a.members) (option_from nat_eq number_from a.backup)
payload_from (Route a) = both _ _ (number_from a.instance) (number_from a.group)

pub same_is_equal : (a b : Payload) → same_payload a b ≡ true ↔ a ≡ b
same_is_equal a b = (payload_to a b, λ e. ap (same_payload a) (sym e) ∙ payload_from a)
