-- The rule of the lock's table, and what its steps tell. A step is one of nine kinds: split, join, glance, draw, look, take (with the
-- look that finds the turn), give back (with the hand on), hand on, and settle.
use Rattle.std.specs.Prelude.{◌≡◌, ◌≢◌, ℕ, zero, suc, ◌+◌, ◌-◌, ◌^◌, ◌<◌, ◌≤◌, ◌==◌, cond, nat_lt, List, [], ◌∷◌, ◌++◌, length, filter, slice_index, Option, Some, None}
use mathlib.Core.Option.{some, none}
use mathlib.Core.Option as maybe
use mathlib.Core.List.{IsPrefix}
use lib.ListN.{get_elem?}
use Rattle.atomic_table.specs.Table.{State, Me, Step}
use Rattle.table_lock.specs.declared.machine.Entry.{Entry}
use Rattle.table_lock.specs.declared.view.Kind.{Kind}
use Rattle.table_lock.specs.declared.view.Kind.TheVariants.{Spent, Note, Pass}
use Rattle.table_lock.specs.declared.view.Phase.{Phase}
use Rattle.table_lock.specs.declared.view.Phase.TheVariants.{Idle, Waits, Acts}
use Rattle.table_lock.specs.declared.view.Item.{Item}
use Rattle.table_lock.specs.declared.view.View.{View}
use Rattle.table_lock.specs.declared.view.LastCall.{LastCall}
use Rattle.table_lock.specs.declared.view.Slot.{Slot}

module _ {C R : Type 0} where
  -- the entries of one number
  abbrev pub calls_of : ℕ → List (Entry C R) → List (Entry C R)
  calls_of n log = filter (λ e. e.by == n) log

  abbrev pub entry : ℕ → C → R → Entry C R
  entry n c r = record { by = n; command = c; reply = r }

  -- the longer of two histories
  abbrev pub longer : List (Entry C R) → List (Entry C R) → List (Entry C R)
  longer xs ys = cond (nat_lt (length xs) (length ys)) ys xs

  -- the numbers of the passes that were joined differ
  abbrev pub Apart : List (Item C R) → Type 0
  Apart ended = (h k : ℕ) (i j : Item C R) → get_elem? ended h ≡ some i → get_elem? ended k ≡ some j → i.number ≡ j.number → h ≡ k

  -- no pass that was joined has this number
  abbrev pub IsNotEnded : List (Item C R) → ℕ → Type 0
  IsNotEnded ended n = (k : ℕ) (i : Item C R) → get_elem? ended k ≡ some i → i.number ≢ n

-- the number of a pass that is not spent
abbrev pub name_by : Kind → ℕ → maybe.Option ℕ
name_by Pass n = some n
name_by Note n = none
name_by Spent n = none

-- the ticket that a pass holds
abbrev pub ticket_in : Phase → maybe.Option ℕ
ticket_in Idle = none
ticket_in (Waits t) = some t
ticket_in (Acts t) = some t

abbrev pub held_by : Kind → Phase → maybe.Option ℕ
held_by Pass p = ticket_in p
held_by Note p = none
held_by Spent p = none

-- 1 for a pass that is not the root
abbrev pub weight : maybe.Option ℕ → ℕ
weight none = 0
weight (some zero) = 0
weight (some (suc n)) = 1

module _ {C R G : Type 0} where
  abbrev pub name_of : View C R G → maybe.Option ℕ
  name_of v = name_by v.kind v.number

  abbrev pub held_of : View C R G → maybe.Option ℕ
  held_of v = held_by v.kind v.phase

  -- how many passes are out
  abbrev pub outs : List (View C R G) → ℕ
  outs [] = 0
  outs (v ∷ vs) = weight (name_of v) + outs vs

  -- some seat has this n
  abbrev pub Has : (View C R G → maybe.Option ℕ) → List (View C R G) → ℕ → Type 0
  Has f views n = (j : ℕ) × (v : View C R G) × (get_elem? views j ≡ some v) × (f v ≡ some n)

  -- no two seats have the same n
  abbrev pub Distinct : (View C R G → maybe.Option ℕ) → List (View C R G) → Type 0
  Distinct f views =
      (i j n : ℕ) (v w : View C R G) → get_elem? views i ≡ some v → get_elem? views j ≡ some w → f v ≡ some n → f w ≡ some n → i ≡ j

  -- no pass has found its turn
  abbrev pub NoneActs : List (View C R G) → Type 0
  NoneActs views = (j t : ℕ) (v : View C R G) → get_elem? views j ≡ some v → v.kind ≡ Pass → v.phase ≢ Acts t

  -- some pass has seen the whole history
  abbrev pub Whole : List (View C R G) → List (Entry C R) → Type 0
  Whole views log = (j : ℕ) × (v : View C R G) × (get_elem? views j ≡ some v) × (v.kind ≡ Pass) × (v.seen ≡ log)

-- where a pass is in a call, between the words
abbrev pub InPhase : ℕ → ℕ → ℕ → ℕ → Phase → Type 0
InPhase tickets serving length_seen _ Idle = Unit {0}
InPhase tickets serving length_seen _ (Waits t) = (serving ≤ t) × (t < tickets)
InPhase tickets serving length_seen length_log (Acts t) = (t ≡ serving) × (t < tickets) × (length_seen ≡ length_log)

module _ {M C R G : Type 0} (setup : M → G) (stands : M → List (Entry C R) → Type 0) (lawful : G → List (Entry C R) → Type 0) (key : G) where
  -- what a seat that is not spent knows: a lawful beginning of the history, the two histories, lawful too, that its last join put
  -- together, and the setup. A note waits for nothing and has no calls
  pub record SeatOk (log : List (Entry C R)) (v : View C R G) : Type 0 where
    pub seen : IsPrefix v.seen log
    pub legal : lawful key v.seen
    pub setup_is : v.setup ≡ Some key
    pub left : IsPrefix v.left v.seen
    pub right : IsPrefix v.right v.seen
    pub left_legal : lawful key v.left
    pub right_legal : lawful key v.right
    pub note : v.kind ≡ Note → (v.phase ≡ Idle) × (v.mine ≡ [])

  -- what a pass knows: its own calls, all of which it has seen, and of the root the counts. Its ticket lies between the words
  pub record PassOk (log : List (Entry C R)) (tickets serving made out : ℕ) (ended : List (Item C R)) (v : View C R G) : Type 0 where
    pub below : v.number < made
    pub own : calls_of v.number log ≡ v.mine
    pub known : calls_of v.number v.seen ≡ v.mine
    pub root : v.number ≡ 0 → (v.made ≡ made) × (v.out ≡ out) × (v.ended ≡ ended)
    pub running : IsNotEnded ended v.number
    pub phase_is : InPhase tickets serving (length v.seen) (length log) v.phase

  -- what a pass that was joined has left
  pub record EndedOk (log : List (Entry C R)) (made : ℕ) (i : Item C R) : Type 0 where
    pub below : i.number < made
    pub after_root : 0 < i.number
    pub calls_are : calls_of i.number log ≡ i.calls

  -- The rule between any two steps. The words are the next ticket and the one that is served; one slot holds the machine.
  -- log is the history, made counts the passes, and ended has those that were joined.
  pub record LockInvariant (s : State (Option (Slot M C R)) (View C R G)) : Type 0 where
    pub log : List (Entry C R)
    pub made : ℕ
    pub ended : List (Item C R)
    pub two : length s.words ≡ 2
    pub one : length s.homes ≡ 1
    -- the served ticket counts the history, and is at most the next one, which is at most 2^62
    pub served : slice_index s.words 1 ≡ length log
    pub order : length log ≤ slice_index s.words 0
    pub bound : slice_index s.words 0 ≤ 2 ^ 62
    pub legal : lawful key log
    pub seats : (j : ℕ) (v : View C R G) → get_elem? s.views j ≡ some v → v.kind ≢ Spent → SeatOk log v
    pub passes : (j : ℕ) (v : View C R G) → get_elem? s.views j ≡ some v → v.kind ≡ Pass
        → PassOk log (slice_index s.words 0) (length log) made (outs s.views) ended v
    -- each ticket from the served one to the last drawn is held by exactly one pass, and no other is held
    pub holders : (t : ℕ) → length log ≤ t → t < slice_index s.words 0 → Has held_of s.views t
    pub queued : Distinct held_of s.views
    -- The root is there. The passes that are there and those that were joined have the numbers below made, each one once, and so many
    -- were made
    pub root : Has name_of s.views 0
    pub apart : Distinct name_of s.views
    pub covered : (n : ℕ) → n < made → IsNotEnded ended n → Has name_of s.views n
    pub ends : (k : ℕ) (i : Item C R) → get_elem? ended k ≡ some i → EndedOk log made i
    pub ended_apart : Apart ended
    pub count : made ≡ 1 + outs s.views + length ended
    -- a number that is not made yet has no calls
    pub unmade : (n : ℕ) → made ≤ n → calls_of n log ≡ []
    -- some pass has seen the whole history
    pub whole : Whole s.views log
    -- where no pass has found its turn, the machine is at home and stands for the history
    pub home : NoneActs s.views → (d : Slot M C R) × (get_elem? s.homes 0 ≡ some (some (Some d))) × stands d.machine log × (setup d.machine ≡ key)

module _ {C R G : Type 0} where
  -- the first view of the root
  abbrev pub first : G → View C R G
  first key = record {
    kind = Pass;
    number = 0;
    phase = Idle;
    seen = [];
    mine = [];
    ticket = 0;
    left = [];
    right = [];
    made = 1;
    out = 0;
    ended = [];
    setup = Some key;
  }

  -- a seat that was joined
  abbrev pub spent : View C R G
  spent = record {
    kind = Spent;
    number = 0;
    phase = Idle;
    seen = [];
    mine = [];
    ticket = 0;
    left = [];
    right = [];
    made = 0;
    out = 0;
    ended = [];
    setup = None;
  }

  -- the root, once it has split off a pass, and that pass
  abbrev pub forked : View C R G → View C R G
  forked v = record v { made = v.made + 1; out = v.out + 1 }

  abbrev pub new_pass : View C R G → View C R G
  new_pass v = record v { kind = Pass; number = v.made; phase = Idle; mine = []; ticket = 0; made = 0; out = 0; ended = [] }

  abbrev pub note_of : View C R G → View C R G
  note_of v = record v { kind = Note; number = 0; phase = Idle; mine = []; ticket = 0; made = 0; out = 0; ended = [] }

  -- what a seat knows, once it has taken in what another knew
  abbrev pub learned : View C R G → View C R G → View C R G
  learned v w = record v { seen = longer v.seen w.seen; left = v.seen; right = w.seen }

  -- the root, once it has taken in a pass
  abbrev pub merged : View C R G → View C R G → View C R G
  merged v w = record v {
    seen = longer v.seen w.seen;
    left = v.seen;
    right = w.seen;
    out = v.out - 1;
    ended = v.ended ++ record { number = w.number; calls = w.mine } ∷ [];
  }

  -- a pass, once it has handed the lock on
  abbrev pub handed_on : View C R G → C → R → View C R G
  handed_on v c r = record v { phase = Idle; seen = v.seen ++ entry v.number c r ∷ []; mine = v.mine ++ entry v.number c r ∷ [] }

module _ {M C R G : Type 0} where
  abbrev pub glanced : Step (Option (Slot M C R)) → Me (Option (Slot M C R)) (View C R G) → ℕ → Me (Option (Slot M C R)) (View C R G) → Type 0
  glanced st m n m' = m' ≡ (record m.0 { ticket = n }, m.1)

  abbrev pub drew : Step (Option (Slot M C R)) → Me (Option (Slot M C R)) (View C R G) → ℕ → Me (Option (Slot M C R)) (View C R G) → Type 0
  drew st m n m' = (n ≡ st.first → m' ≡ (record m.0 { ticket = n; phase = Waits n }, m.1)) × (n ≢ st.first → m' ≡ (record m.0 { ticket = n }, m.1))

  abbrev pub handed : Step (Option (Slot M C R)) → Me (Option (Slot M C R)) (View C R G) → ℕ → Me (Option (Slot M C R)) (View C R G) → Type 0
  handed st m n m' =
      (d : Slot M C R) (l : LastCall C R) → m.1 ≡ (0, Some d) ∷ [] → d.last ≡ Some l
      → m' ≡ (handed_on m.0 l.command.value l.reply.value, [])

module _ {M C R G : Type 0} (setup : M → G) (stands : M → List (Entry C R) → Type 0) (lawful : G → List (Entry C R) → Type 0) where
  -- what a seat is told that finds its turn: the whole history, and the machine that stands for it
  pub record Turn (v : View C R G) (n : ℕ) (log : List (Entry C R)) (d : Slot M C R) : Type 0 where
    pub longer_by : IsPrefix v.seen log
    pub length_is : length log ≡ n
    pub own : calls_of v.number log ≡ v.mine
    pub stands_for : stands d.machine log
    pub set_up : v.setup ≡ Some (setup d.machine)
    pub legal : lawful (setup d.machine) log

  abbrev pub looked : Step (Option (Slot M C R)) → Me (Option (Slot M C R)) (View C R G) → ℕ → Me (Option (Slot M C R)) (View C R G) → Type 0
  looked st m n m' = (t : ℕ) → m.0.phase ≡ Waits t
      → (n ≡ t
      → (log : List (Entry C R)) × (d : Slot M C R)
      × (m' ≡ (record m.0 { phase = Acts t; seen = log }, (0, Some d) ∷ m.1)) × Turn m.0 n log d)
      × (n ≢ t → m' ≡ m)

module _ {C R G : Type 0} (lawful : G → List (Entry C R) → Type 0) where
  -- what a seat is told of what it knows
  pub record Sound (v : View C R G) : Type 0 where
    pub left : IsPrefix v.left v.seen
    pub right : IsPrefix v.right v.seen
    pub legal : (key : G) → v.setup ≡ Some key → lawful key v.seen
    pub own : v.kind ≡ Pass → calls_of v.number v.seen ≡ v.mine

module _ {M C R G : Type 0} (lawful : G → List (Entry C R) → Type 0) where
  -- The ninth kind of step, a load that changes nothing. It tells a seat what the rule says of its view: after a split that the new
  -- pass knows a lawful history, and after a join that both old histories begin the longer one
  abbrev pub settled : Step (Option (Slot M C R)) → Me (Option (Slot M C R)) (View C R G) → ℕ → Me (Option (Slot M C R)) (View C R G) → Type 0
  settled st m n m' = (m' ≡ m) × Sound lawful m.0
