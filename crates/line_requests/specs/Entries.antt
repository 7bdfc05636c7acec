-- The entry that an operation's line sends.
use Rattle.std.specs.Prelude.{ℕ, ◌==◌, List, [], map, codes, if◌then◌else◌, Option, Some, None}
use Rattle.std.specs.List.{slice_split}
use Rattle.std.specs.Option.{option_map, option_map_or, option_and_then}
use Rattle.script_lang.specs.Forms.{is, option_at, rest_at}
use Rattle.aft_entries.specs.declared.operation.RawHop.{RawHop}
use Rattle.aft_entries.specs.declared.operation.RawGroup.{RawGroup}
use Rattle.aft_entries.specs.declared.operation.RawRoute.{RawRoute}
use Rattle.aft_entries.specs.declared.operation.RawEntry.{RawEntry}
use Rattle.aft_entries.specs.declared.operation.RawEntry.TheVariants as entry
use Rattle.line_requests.specs.Numbers.{narrow, cut}

-- parts of a word, parted by commas
abbrev pub pieces : List ℕ → List (List ℕ)
pieces word = slice_split (λ c. c == 44) word

-- a number behind a key
abbrev pub number_at : List ℕ → List (List ℕ) → Option ℕ
number_at key words = option_map narrow (option_at key words)

-- ---- a next hop

abbrev pub label : List ℕ → Option ℕ
label word = Some (narrow word)

abbrev pub labels_at : List (List ℕ) → List (Option ℕ)
labels_at words = option_map_or (λ word. map label (pieces word)) (option_at (codes "push=") words) []

abbrev pub first_of : (List ℕ × List ℕ) → List ℕ
first_of halves = halves.0

abbrev pub second_of : (List ℕ × List ℕ) → List ℕ
second_of halves = halves.1

-- the two ends of a tunnel
abbrev pub tunnel : List (List ℕ) → Option (List ℕ × List ℕ)
tunnel words = option_and_then (cut 44) (option_at (codes "ipip=") words)

-- the words behind an option, where it stands
abbrev pub behind_ip : List (List ℕ) → List (List ℕ)
behind_ip words = rest_at (codes "ip=") words

abbrev pub behind_mac : List (List ℕ) → List (List ℕ)
behind_mac words = rest_at (codes "mac=") (behind_ip words)

abbrev pub behind_interface : List (List ℕ) → List (List ℕ)
behind_interface words = rest_at (codes "interface=") (behind_mac words)

abbrev pub behind_subinterface : List (List ℕ) → List (List ℕ)
behind_subinterface words = rest_at (codes "subinterface=") (behind_interface words)

abbrev pub behind_tunnel : List (List ℕ) → List (List ℕ)
behind_tunnel words = rest_at (codes "ipip=") (behind_subinterface words)

unfoldable pub behind_hop : List (List ℕ) → List (List ℕ)
behind_hop words = rest_at (codes "push=") (behind_tunnel words)

unfoldable pub hop : List (List ℕ) → RawHop
hop words = record {
  ip = option_at (codes "ip=") words;
  mac = option_at (codes "mac=") (behind_ip words);
  interface = option_at (codes "interface=") (behind_mac words);
  subinterface = number_at (codes "subinterface=") (behind_interface words);
  source = option_map first_of (tunnel (behind_subinterface words));
  target = option_map second_of (tunnel (behind_subinterface words));
  push = labels_at (behind_tunnel words);
}

-- ---- a group

-- an index, and the weight behind the colon
abbrev pub member_by : List ℕ → Option (List ℕ × List ℕ) → ℕ × Option ℕ
member_by word None = (narrow word, None)
member_by word (Some halves) = (narrow halves.0, Some (narrow halves.1))

abbrev pub member : List ℕ → ℕ × Option ℕ
member word = member_by word (cut 58 word)

abbrev pub members_at : List (List ℕ) → List (ℕ × Option ℕ)
members_at words = option_map_or (λ word. map member (pieces word)) (option_at (codes "hops=") words) []

abbrev pub behind_members : List (List ℕ) → List (List ℕ)
behind_members words = rest_at (codes "hops=") words

unfoldable pub behind_group : List (List ℕ) → List (List ℕ)
behind_group words = rest_at (codes "backup=") (behind_members words)

unfoldable pub group : List (List ℕ) → RawGroup
group words = record { members = members_at words; backup = number_at (codes "backup=") (behind_members words) }

-- ---- a route

abbrev pub behind_route_group : List (List ℕ) → List (List ℕ)
behind_route_group words = rest_at (codes "group=") words

unfoldable pub behind_route : List (List ℕ) → List (List ℕ)
behind_route words = rest_at (codes "group-instance=") (behind_route_group words)

unfoldable pub route : List (List ℕ) → RawRoute
route words = record {
  group = number_at (codes "group=") words;
  instance = option_at (codes "group-instance=") (behind_route_group words);
}

-- ---- any entry, by the word of its kind, its key and the words behind

unfoldable pub entry_of : List ℕ → List ℕ → List (List ℕ) → RawEntry
entry_of kind key words =
    if is (codes "next-hop") kind then entry.Hop (narrow key) (hop words)
    else if is (codes "group") kind then entry.Group (narrow key) (group words)
    else if is (codes "ipv4") kind then entry.V4 key (route words)
    else if is (codes "ipv6") kind then entry.V6 key (route words)
    else entry.Label (Some (narrow key)) (route words)

-- what stands behind it
unfoldable pub behind_entry : List ℕ → List (List ℕ) → List (List ℕ)
behind_entry kind words =
    if is (codes "next-hop") kind then behind_hop words
    else if is (codes "group") kind then behind_group words
    else behind_route words
