-- What serving links leaves: the links that were given and taken back, and the passes through which they were served.
use Rattle.std.specs.Prelude.{◌≡◌, ℕ, ◌+◌, ◌-◌, ◌≤◌, Bool, true, false, List, [], ◌∷◌, ◌++◌, map, length, Option, Some, None}
use Rattle.std.specs.List.{list_any}
use Rattle.std.specs.List.Sorted.{IsPermutation}
use Rattle.std.specs.Option.{option_map}
use mathlib.Core.List.{IsPrefix}
use Rattle.rig_io.specs.Accept.{AllAccepted}
use Rattle.rig_io.specs.Fault.{HasRisen}
use Rattle.reactor.specs.Turns.{ReactorItems}
use Rattle.table_lock.specs.declared.machine.Entry.{Entry}
use Rattle.table_lock.specs.declared.view.Item.{Item}
use Rattle.table_lock.specs.Passes.{IsPassOf, IsSound, LockView, PassView, item}
use Rattle.link_serving.specs.declared.course.Came.{Came}
use Rattle.link_serving.specs.declared.course.Came.TheVariants as came
use Rattle.link_serving.specs.declared.service.Ended.{Ended}
use Rattle.link_serving.specs.declared.service.Ended.TheVariants as ended

-- it holds of each
abbrev pub Each : {X : Type 0} → (X → Type 0) → List X → Type 0
Each P [] = Unit {0}
Each P (x ∷ xs) = P x × Each P xs

-- A service takes each new pass of the lock, and gives passes of the lock back.
pub record Suits {C R G : Type 0} (lawful : G → List (Entry C R) → Type 0) (lock : LockView G) (takes gives : PassView C R G → Type 0) : Type 0 where
  pub takes_new : (p : PassView C R G) → IsPassOf lock p → IsSound lawful lock.setup p → p.mine ≡ [] → takes p
  pub gives_back : (p : PassView C R G) → gives p → IsPassOf lock p

-- ---- the links of an acceptor

-- how many links it gave and took back, and which, where it tells them
pub record Links (L : Type 0) : Type 0 where
  pub gave : ℕ
  pub took : ℕ
  pub given : Option (List L)
  pub retired : Option (List L)

abbrev pub links_of : {A L : Type 0} → (A → ℕ) → (A → ℕ) → (A → Option (List L)) → (A → Option (List L)) → A → Links L
links_of gave took given retired a = record { gave = gave a; took = took a; given = given a; retired = retired a }

-- What accepting did, with these counts of failures and what was asked for before and after: once it has ended without a failure, as
-- many links were given as were asked for. A failure is told exactly where the count rose.
pub record HasAccepted (faults faults' : ℕ) (asked asked' : ℕ × ℕ) (gave : ℕ) (has_ended has_failed : Bool) : Type 0 where
  pub later : faults ≤ faults'
  pub rose : has_failed ≡ true → HasRisen faults faults'
  pub hidden : has_failed ≡ false → faults' ≡ faults
  pub same : asked' ≡ asked
  pub all : has_ended ≡ true → has_failed ≡ false → AllAccepted gave asked.1 asked.0

-- a link came that was not given before
pub record HasBegun {L : Type 0} (link : L) (before after : Links L) : Type 0 where
  pub gave : after.gave ≡ before.gave + 1
  pub took : after.took ≡ before.took
  pub given : after.given ≡ option_map (λ ls. ls ++ link ∷ []) before.given
  pub retired : after.retired ≡ before.retired

-- the pass was joined into the root, and its link given back
pub record IsTakenBack {C R G L : Type 0} (link : L) (pass root root' : PassView C R G) (links links' : Links L) : Type 0 where
  pub root_is : root' ≡ record root { seen = root'.seen; out = root.out - 1; ended = root.ended ++ item pass ∷ [] }
  pub mine : IsPrefix root.seen root'.seen
  pub theirs : IsPrefix pass.seen root'.seen
  pub gave : links'.gave ≡ links.gave
  pub took : links'.took ≡ links.took + 1
  pub given : links'.given ≡ links.given
  pub retired : links'.retired ≡ option_map (λ ls. ls ++ link ∷ []) links.retired

-- ---- what asking for a link came to

abbrev pub is_new : Came → Bool
is_new came.Taken = true
is_new came.Refused = true
is_new came.NotReady = false
is_new came.Closed = false
is_new came.Failed = false

abbrev pub refuses : Came → Bool
refuses came.Taken = false
refuses came.Refused = true
refuses came.NotReady = false
refuses came.Closed = false
refuses came.Failed = false

abbrev pub ends : Came → Bool
ends came.Taken = false
ends came.Refused = false
ends came.NotReady = false
ends came.Closed = true
ends came.Failed = true

abbrev pub fails : Came → Bool
fails came.Taken = false
fails came.Refused = false
fails came.NotReady = false
fails came.Closed = false
fails came.Failed = true

-- ---- the links that are done with

-- how an item ended: for want of memory, or at a call of the lock that was Spent
abbrev pub lacks : Ended → Bool
lacks ended.Served = false
lacks ended.NoMemory = true
lacks ended.Spent = false

abbrev pub spends : Ended → Bool
spends ended.Served = false
spends ended.NoMemory = false
spends ended.Spent = true

-- a link that was retired: as it was given and as it was taken back, its pass, and how it ended; none for want of memory before its
-- first turn
pub record Done (C R G L : Type 0) : Type 0 where
  pub first : L
  pub link : L
  pub pass : PassView C R G
  pub how : Option Ended

-- memory was wanting for it, or in it
abbrev pub lacks_memory : Option Ended → Bool
lacks_memory None = true
lacks_memory (Some end) = lacks end

-- a call of the lock was Spent in it
abbrev pub is_spent : Option Ended → Bool
is_spent None = false
is_spent (Some end) = spends end

module _ {C R G L : Type 0} (served : L → L → PassView C R G → Ended → Type 0) where
  -- It was served to its end through its pass; or it was taken back as it was given, and its pass made no call.
  abbrev pub HowDone : L → L → PassView C R G → Option Ended → Type 0
  HowDone first link pass None = (link ≡ first) × (pass.mine ≡ [])
  HowDone first link pass (Some end) = served first link pass end

  abbrev pub IsDone : Done C R G L → Type 0
  IsDone d = HowDone d.first d.link d.pass d.how

-- where serving began: the root pass and the links of the acceptor then
pub record Start (C R G L : Type 0) : Type 0 where
  pub links : Links L
  pub out : ℕ
  pub ended : List (Item C R)
  pub seen : List (Entry C R)

abbrev pub start_at : {C R G L : Type 0} → PassView C R G → Links L → Start C R G L
start_at root links = record { links = links; out = root.out; ended = root.ended; seen = root.seen }

-- Between: these links are held, of those that were given and not taken back, and for each a pass is out. Each link that was retired
-- since the start was served through a pass of its own, which was joined, in the same order; and the links that were given since are
-- those that were retired and those that are held, in another order.
pub record IsServing {C R G L : Type 0} (served : L → L → PassView C R G → Ended → Type 0) (start : Start C R G L) (root : PassView C R G) (links : Links L)
    (held : List L) (short spent : Bool) : Type 0 where
  pub out : root.out ≡ start.out + length held
  pub count : links.gave + start.links.took ≡ links.took + start.links.gave + length held
  pub done : List (Done C R G L)
  pub each : Each (IsDone served) done
  pub ended : root.ended ≡ start.ended ++ map (λ d. item d.pass) done
  pub taken_back : links.retired ≡ option_map (λ ls. ls ++ map (λ d. d.link) done) start.links.retired
  pub news : List L
  pub given : links.given ≡ option_map (λ ls. ls ++ news) start.links.given
  pub begun : IsPermutation news (map (λ d. d.first) done ++ held)
  pub short_is : short ≡ list_any (λ d. lacks_memory d.how) done
  pub spent_is : spent ≡ list_any (λ d. is_spent d.how) done
  -- all that each pass had seen, the root has seen
  pub seen : IsPrefix start.seen root.seen
  pub each_seen : Each (λ d. IsPrefix d.pass.seen root.seen) done

-- each item was made of the link at its place
abbrev pub AreMadeOf : {T L : Type 0} → (T → L → Type 0) → List T → List L → Type 0
AreMadeOf origin [] [] = Unit {0}
AreMadeOf origin [] (link ∷ links) = ⊥
AreMadeOf origin (made ∷ items) [] = ⊥
AreMadeOf origin (made ∷ items) (link ∷ links) = origin made link × AreMadeOf origin items links

-- Between: the links that are held are those that the items of a reactor were made of.
pub record ServesItems {C R G L T : Type 0} (served : L → L → PassView C R G → Ended → Type 0) (origin : T → L → Type 0) (start : Start C R G L)
    (root : PassView C R G) (links : Links L) (items : ReactorItems T) (short spent : Bool) : Type 0 where
  pub held : List L
  pub made : AreMadeOf origin (items.live ++ items.over) held
  pub serves : IsServing served start root links held short spent

-- All links are served: none is held, so as many were retired as were given.
abbrev pub AreServed : {C R G L : Type 0} → (L → L → PassView C R G → Ended → Type 0) → Start C R G L → PassView C R G → Links L → Bool → Bool → Type 0
AreServed served start root links short spent = IsServing served start root links [] short spent
