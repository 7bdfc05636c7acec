-- A pass that has found its turn lets the machine act, and hands the lock on.
use Rattle.std.proofs.Common.{◌≡◌, ℕ, ◌+◌, ◌%◌, ◌^◌, ◌<◌, List, [], ◌∷◌, ◌++◌, sym, ap, ◌∙◌, subst, arith, Option, Some}
use mathlib.Core.Option.{none}
use Rattle.atomic_table.specs.Table.{Me, Step, step, rest, Allows}
use Rattle.table_lock.specs.declared.machine.Entry.{Entry}
use Rattle.table_lock.specs.declared.view.Kind.TheVariants.{Pass}
use Rattle.table_lock.specs.declared.view.Phase.TheVariants.{Acts}
use Rattle.table_lock.specs.declared.view.View.{View}
use Rattle.table_lock.specs.declared.view.Slot.{Slot}
use Rattle.table_lock.specs.Lock.{entry, LockInvariant, Turn, handed, handed_on}
use Rattle.table_lock.specs.Seats.{IsReady, IsPerformed}
use Rattle.table_lock.proofs.Keeps.{same_slot, hands, handed_is}

abbrev slot_or : {S : Type 0} → S → List (ℕ × S) → S
slot_or y [] = y
slot_or y (x ∷ xs) = x.1

-- what the machine asks before it acts
module _ {M C R G : Type 0} (setup : M → G) (stands : M → List (Entry C R) → Type 0) (lawful : G → List (Entry C R) → Type 0) where
  pub ready : (t : ℕ) (me : Me (Option (Slot M C R)) (View C R G)) (slot_content : Slot M C R) (found : Option (Slot M C R)) → t < 2 ^ 62 → me.1 ≡ (0, Some slot_content) ∷ [] → Turn setup stands lawful me.0 t me.0.seen slot_content → me.1 ≡ (0, found) ∷ rest me.1
      → IsReady stands found
  ready t me slot_content found few holds turn took = record {
    slot_content = slot_content;
    has = ap (slot_or found) (sym took ∙ holds);
    history = me.0.seen;
    stands_for = turn.stands_for;
    few = (let n = turn.length_is in omega arith);
  }

module _ {M C R G : Type 0} (setup : M → G) (stands : M → List (Entry C R) → Type 0) (lawful : G → List (Entry C R) → Type 0) (key : G) (law : (x : M) (h : List (Entry C R)) → stands x h → lawful (setup x) h)
    (t : ℕ) (me me2 : Me (Option (Slot M C R)) (View C R G)) (slot_content : Slot M C R) (found new : Option (Slot M C R)) (c : C) (a : R) (pass : me.0.kind ≡ Pass) (acts : me.0.phase ≡ Acts t) (few : t < 2 ^ 62)
    (holds : me.1 ≡ (0, Some slot_content) ∷ []) (turn : Turn setup stands lawful me.0 t me.0.seen slot_content) (took : me.1 ≡ (0, found) ∷ rest me.1) (done : IsPerformed setup stands found new c a) (full : me2 ≡ (me.0, (0, new) ∷ rest me.1)) where
  abbrev S : Type 0
  S = Option (Slot M C R)

  first : me2.0 ≡ me.0
  first = ap (λ (m : Me S (View C R G)). m.0) full

  has : me2.1 ≡ (0, Some done.after) ∷ []
  has = ap (λ (m : Me S (View C R G)). m.1) full ∙ (λ i. (0, done.now i) ∷ ap rest holds i)

  same : slot_content ≡ done.before
  same = same_slot setup stands lawful key me.1 slot_content done.before holds (took ∙ (λ i. (0, done.was i) ∷ ap rest holds i))

  stand : stands done.after.machine (me.0.seen ++ entry me.0.number c a ∷ [])
  stand = done.event me.0.number me.0.seen (subst (λ (y : Slot M C R). stands y.machine me.0.seen) same turn.stands_for) (let n = turn.length_is in omega arith)

  set_up : me.0.setup ≡ Some (setup done.after.machine)
  set_up = turn.set_up ∙ ap Some (ap (λ (y : Slot M C R). setup y.machine) same ∙ sym done.kept)

  pub acting : (slots id : ℕ) → Allows (LockInvariant setup stands lawful key) slots id me2 1 (λ n. (n + 1) % 2 ^ 64) (handed (step slots 1 1 0 none) me2)
  acting slots id = hands setup stands lawful key law slots id t me2 done.after done.last me.0 c a first pass acts few has done.last_is done.command_is done.reply_is stand set_up

  pub acted : (st : Step S) (n : ℕ) (me3 : Me S (View C R G)) → handed st me2 n me3 → (me3 ≡ (handed_on me.0 c a, [])) × ((k : G) → me.0.setup ≡ Some k → lawful k me3.0.seen)
  acted st n me3 told =
      let now : me3 ≡ (handed_on me.0 c a, []) = handed_is setup stands lawful key me2 me3 done.after done.last me.0 c a first has done.last_is done.command_is done.reply_is st n told in (
        now,
        (λ k is. let k_is : setup done.after.machine ≡ k = cc (set_up, is) in
            subst (λ (m : Me S (View C R G)). lawful k m.0.seen) (sym now) (subst (λ (y : G). lawful y (me.0.seen ++ entry me.0.number c a ∷ [])) k_is (law done.after.machine (me.0.seen ++ entry me.0.number c a ∷ []) stand))),
      )
