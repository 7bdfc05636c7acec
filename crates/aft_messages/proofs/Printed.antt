-- What is printed of an entry is an entry as it is sent.
use Rattle.std.proofs.Common.{◌≡◌, ℕ, ◌+◌, ◌<◌, ◌≤◌, ◌^◌, true, List, [], ◌++◌, length, get_or, map, take, Option, Some, Result, Ok, Err, Fits, w32, refl, subst, arith}
use Rattle.std.specs.Prelude.{All, Bool, false, IfSome, OnOk, is_err, slice_index_or}
use Rattle.std.specs.Option.{option_map}
use Rattle.std.specs.Str.{IsUtf8, is_utf8}
use Rattle.std.proofs.lemmas.Str.{is_utf8-from_IsUtf8}
use Rattle.std.proofs.lemmas.List.Elements.{All-map, All-more, All-from_get_or}
use Rattle.std.proofs.lemmas.List.{take_all}
use Rattle.addr_text.specs.Printed.{address_text, mac_text}
use Rattle.schema_numbers.specs.Numbers.{Numbers}
use Rattle.schema_numbers.specs.Valid.{IsValid}
use Rattle.aft_entries.specs.declared.lists.Member.{Member}
use Rattle.aft_entries.specs.declared.entry.HopPayload.{HopPayload}
use Rattle.aft_entries.specs.declared.entry.GroupPayload.{GroupPayload}
use Rattle.aft_entries.specs.declared.entry.RoutePayload.{RoutePayload}
use Rattle.aft_entries.specs.declared.operation.RawEntry.{RawEntry}
use Rattle.aft_messages.specs.Writing.{raw_bytes}
use Rattle.aft_messages.specs.Printing.{raw_hop, raw_member, raw_group, raw_route}
use Rattle.aft_messages.specs.Encodable.{IsNumber, IsText, IsMember, IsGroup, IsHop, IsRoute, IsEncodable, IsReadAgain, raw_kind}
use Rattle.aft_messages.proofs.Routes.{back_fits}
use Rattle.aft_messages.proofs.Again.{again}

pub text_sent : (bytes text : List ℕ) → bytes ≡ text → IsUtf8 bytes → IsText (Some text)
text_sent bytes text is h = subst (λ (x : List ℕ). is_utf8 x ≡ true) is (is_utf8-from_IsUtf8 bytes h)

small : (x : ℕ) → Fits w32 x → x < 2 ^ 64
small x h = omega (arith, h)

pub labels_sent : (labels : List ℕ) → ((k : ℕ) → Fits w32 (get_or labels k 0)) → All IsNumber (map Some labels)
labels_sent labels h = All-map IsNumber Some labels (All-from_get_or (λ x. x < 2 ^ 64) labels 0 (λ i lt. small (get_or labels i 0) (h i)))

-- a member of a group is one as it is sent
abbrev pub MemberFits : Member → Type 0
MemberFits member = IsMember (raw_member member)

pub members_more : (members : List Member) (i weight : ℕ) (d : Member) → i < length members → All MemberFits (take i members)
    → (get_or members i d).hop < 2 ^ 64 → weight ≡ (get_or members i d).weight → weight < 2 ^ 64 → All MemberFits (take (i + 1) members)
members_more members i weight d lt before hop is fits = All-more MemberFits members i d lt before (hop, subst (λ (w : ℕ). w < 2 ^ 64) is fits)

pub members_sent : (members : List Member) (i : ℕ) → length members ≤ i → All MemberFits (take i members) → All IsMember (map raw_member members)
members_sent members i le all = All-map IsMember raw_member members (subst (All MemberFits) (take_all i members le) all)

pub hop_sent : (hop : HopPayload) (ip mac source target : Option (List ℕ)) (push : List ℕ) → ip ≡ option_map address_text hop.ip → mac ≡ option_map mac_text hop.mac → source ≡ option_map address_text hop.source → target ≡ option_map address_text hop.target
    → IsText ip → IsText mac → IsText hop.interface → IsNumber hop.subinterface → IsText source → IsText target → push ≡ hop.push → All IsNumber (map Some push) → IsHop (raw_hop hop)
unfolding raw_hop
hop_sent hop ip mac source target push a b c d i m f s x y e p =
    (subst IsText a i, subst IsText b m, f, s, subst IsText c x, subst IsText d y, subst (λ (labels : List ℕ). All IsNumber (map Some labels)) e p)

pub group_sent : (group : GroupPayload) (members : List Member) → members ≡ group.members → All IsMember (map raw_member members) → IsNumber group.backup → IsGroup (raw_group group)
unfolding raw_group
group_sent group members is all backup = (subst (λ (ms : List Member). All IsMember (map raw_member ms)) is all, backup)

pub route_sent : (names : List (List ℕ)) (route : RoutePayload) (name : List ℕ) → name ≡ slice_index_or names route.instance [] → IsUtf8 name → route.group < 2 ^ 64 → IsRoute (raw_route names route)
route_sent names route name is utf8 group = (group, subst (λ (text : List ℕ). is_utf8 text ≡ true) is (is_utf8-from_IsUtf8 name utf8))

-- a prefix that was appended to an empty text
pub prefix_sent : (prefix start text written : List ℕ) → start ≡ [] → text ≡ start ++ prefix → written ≡ text → IsUtf8 written → is_utf8 prefix ≡ true
prefix_sent prefix start text written empty is same utf8 =
    let whole : written ≡ prefix = rw (same, is, empty) refl in
    subst (λ (bytes : List ℕ). is_utf8 bytes ≡ true) whole (is_utf8-from_IsUtf8 written utf8)

-- a fact that holds whatever a call answers
pub on_ok : {T E P : Type 0} (result : Result T E) → P → OnOk result P
on_ok (Ok value) p = p
on_ok (Err e) p = tt

-- a fact of a call that had no error
pub from_ok : {T E P : Type 0} (result : Result T E) (failed : Bool) → failed ≡ is_err result → failed ≡ false → OnOk result P → P
from_ok (Ok value) failed e f p = p
from_ok (Err x) failed e f p = cc

pub printed_again : (n : Numbers) (raw : RawEntry) (before after : List ℕ) → IsValid n → IsEncodable raw → after ≡ before ++ raw_bytes n raw → length after < 2 ^ 64
    → IfSome (raw_kind raw) (λ kind. IsReadAgain n kind raw)
printed_again n raw before after valid sent is fits =
    again n raw valid sent (back_fits before (raw_bytes n raw) (subst (λ (bytes : List ℕ). length bytes < 2 ^ 64) is fits))
