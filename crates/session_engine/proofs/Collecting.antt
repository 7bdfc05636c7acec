-- A Collect, and the good end behind it.
use Rattle.std.specs.Prelude.{◌^◌}
use Rattle.std.proofs.Common.{◌≤◌, ◌≡◌, ℕ, pos, Bool, true, false, ◌&&◌, ◌||◌, if◌then◌else◌, map, List, [], ◌∷◌, ◌++◌, Some, None, refl, sym, ap, ◌∙◌, subst, append_assoc, append-nil}
use Rattle.std.specs.List.{list_any}
use Rattle.std.proofs.lemmas.List.Folds.{list_any-append}
use Rattle.grpc_heads.specs.CallEnd.{CallEnd, Status}
use Rattle.h2_exchange.specs.StreamParts.{Item, Message, Finish}
use Rattle.table_lock.specs.declared.machine.Entry.{Entry}
use Rattle.table_lock.specs.Passes.{PassView, IsSound, IsCalled}
use Rattle.table_lock.proofs.Extends.{extended_call}
use Rattle.table_model.specs.declared.command.Command.{Command}
use Rattle.table_model.specs.declared.command.Command.TheVariants.{Collect}
use Rattle.table_model.specs.declared.reply.Reply.{Reply}
use Rattle.table_model.specs.declared.reply.Reply.TheVariants as reply
use Rattle.call_answers.specs.declared.orders.Setting.{Setting}
use Rattle.call_orders.specs.Owed.{end_items, has_end, is_end, items_for, modify_items, ok}
use Rattle.call_orders.specs.Calls.{Modifies, good_end, is_clear}
use Rattle.call_orders.specs.Orders.{is_stopped_by}
use Rattle.session_engine.specs.declared.step.Step.{Step}
use Rattle.session_engine.specs.declared.step.Progress.{Progress}
use Rattle.session_engine.specs.declared.step.Progress.TheVariants.{GoesOn, Ended, OutOfMemory, Spent}
use Rattle.session_engine.specs.Stands.{items_in, leaves_by}
use Rattle.session_engine.specs.Steps.{AddsItems, AddsAnswer, EndsFinished, CollectsResults, collect_entry}
use Rattle.session_engine.proofs.CommandRuns.{spent_behind, sound_still, or_false}

-- results that are given without any outstanding end nothing by themselves
clear_no_end : (s : Setting) (session : ℕ) (said : Reply) → is_clear said ≡ true → has_end (items_for s (collect_entry session said)) ≡ false
clear_no_end s session (reply.Collected [] outstanding) e = refl
clear_no_end s session (reply.Collected (r ∷ rs) outstanding) e = refl
clear_no_end s session said e = absurd (cc e)

abbrev tail_by : Bool → List (Item CallEnd)
tail_by b = if b then Finish (Status ok) ∷ [] else []

ends_tail : (xs : List (Item CallEnd)) → has_end (xs ++ Finish (Status ok) ∷ []) ≡ true
ends_tail xs = list_any-append is_end xs (Finish (Status ok) ∷ []) ∙ or_last (list_any is_end xs)
  where
    or_last : (b : Bool) → (b || true) ≡ true
    or_last true = refl
    or_last false = refl

items_end : (w0 w : Progress) (b : Bool) (items : List (Item CallEnd)) (a m c : Step) → (b ≡ true → has_end items ≡ false) → AddsAnswer w0 items a m → EndsFinished w0 b w m c → AddsItems w (items ++ tail_by b) a c
items_end GoesOn w true items a m c never h k =
    let got : items_in c ≡ (items_in a ++ items) ++ end_items (Some ok) =
    ap items_in k.1 ∙ ap (λ (l : List (Item CallEnd)). l ++ end_items (Some ok)) (sym (append-nil (map Message m.answers)) ∙ (ap (λ (e : List (Item CallEnd)). map Message m.answers ++ e) (sym (ap end_items h.2)) ∙ h.1)) in
    subst (λ (x : Progress). AddsItems x (items ++ tail_by true) a c) (sym k.0) (ends_tail items, got ∙ append_assoc (items_in a) items (end_items (Some ok)))
items_end GoesOn w false items a m c never h k =
    subst (λ (x : Progress). AddsItems x (items ++ []) a c) (sym k.0)
    (subst (λ (l : List (Item CallEnd)). AddsItems GoesOn l a c) (sym (append-nil items)) (subst (λ (x : Step). AddsItems GoesOn items a x) (sym k.1) h))
items_end Ended w true items a m c never h k = absurd (cc (never refl, h.0))
items_end Ended w false items a m c never h k =
    subst (λ (x : Progress). AddsItems x (items ++ []) a c) (sym k.0)
    (subst (λ (l : List (Item CallEnd)). AddsItems Ended l a c) (sym (append-nil items)) (subst (λ (x : Step). AddsItems Ended items a x) (sym k.1) h))
items_end OutOfMemory w b items a m c never h k =
    subst (λ (x : Progress). AddsItems x (items ++ tail_by b) a c) (sym k.0)
    (subst (λ (x : Step). AddsItems OutOfMemory (items ++ tail_by b) a x) (sym k.1) (h.0, ([], items ++ tail_by b, refl, h.1 ∙ sym (append-nil (items_in a)))))
items_end Spent w b items a m c never h k = absurd h

good_is : (s : Setting) (session : ℕ) (fin : Bool) (said : Reply) (b : Bool) → b ≡ (fin && is_clear said) → good_end (Modifies session fin) (collect_entry session said ∷ []) ≡ tail_by b
good_is s session true said b e = ap tail_by (or_false (is_clear said) ∙ sym e)
good_is s session false said b e = ap tail_by (sym e)

clear_by : (fin clear : Bool) (b : Bool) → b ≡ (fin && clear) → b ≡ true → clear ≡ true
clear_by true clear b e f = sym e ∙ f
clear_by false clear b e f = absurd (cc (e, f))

halted_same : (w0 w : Progress) (b : Bool) (m c : Step) → EndsFinished w0 b w m c → c.halted ≡ m.halted
halted_same GoesOn w true m c k = ap (λ (x : Step). x.halted) k.1
halted_same GoesOn w false m c k = ap (λ (x : Step). x.halted) k.1
halted_same Ended w b m c k = ap (λ (x : Step). x.halted) k.1
halted_same OutOfMemory w b m c k = ap (λ (x : Step). x.halted) k.1
halted_same Spent w b m c k = ap (λ (x : Step). x.halted) k.1

not_spent_then : (w0 w : Progress) (b : Bool) (items : List (Item CallEnd)) (a m c : Step) → AddsAnswer w0 items a m → EndsFinished w0 b w m c → w ≡ Spent → ⊥
not_spent_then GoesOn w true items a m c h k e = cc (k.0, e)
not_spent_then GoesOn w false items a m c h k e = cc (k.0, e)
not_spent_then Ended w b items a m c h k e = cc (k.0, e)
not_spent_then OutOfMemory w b items a m c h k e = cc (k.0, e)
not_spent_then Spent w b items a m c h k e = h

module _ {G : Type 0} (lawful : G → List (Entry Command Reply) → Type 0) (setup : G) where
  pub collect_spent : (s : Setting) (p q : PassView Command Reply G) (session : ℕ) (fin : Bool) (a : Step) → 2 ^ 62 ≤ q.ticket → q ≡ record p { ticket = q.ticket } → IsSound lawful setup p → a.end ≡ None → CollectsResults lawful setup s p q session fin Spent false a a
  collect_spent s p q session fin a late e sound no_end = record {
    said = reply.Left;
    calls = λ alive. absurd (alive refl);
    spent = λ e'. spent_behind lawful setup p q late e sound;
    sound = sound_still lawful setup p q e sound;
    told = no_end;
    halted = sym (or_false a.halted);
    left = λ alive. absurd (alive refl);
  }

  pub collect_called : (s : Setting) (p q : PassView Command Reply G) (session : ℕ) (fin : Bool) (said : Reply) (w0 w : Progress) (b has_left : Bool) (a m c : Step) → IsCalled lawful setup p q (Collect session) said
      → AddsAnswer w0 (modify_items s.numbering false 0 (pos 0) said) a m → m.halted ≡ (a.halted || is_stopped_by said) → EndsFinished w0 b w m c → b ≡ (fin && is_clear said) → has_left ≡ leaves_by said → CollectsResults lawful setup s p q session fin w has_left a c
  collect_called s p q session fin said w0 w b has_left a m c called tells halted ends is left =
      let items : List (Item CallEnd) = items_for s (collect_entry session said) in
      let told : AddsItems w (items ++ tail_by b) a c = items_end w0 w b items a m c (λ t. clear_no_end s session said (clear_by fin (is_clear said) b is t)) tells ends in
      record {
        said = said;
        calls = λ alive. extended_call lawful setup p q (Collect session) said called;
        spent = λ e. absurd (not_spent_then w0 w b items a m c tells ends e);
        sound = (extended_call lawful setup p q (Collect session) said called).sound;
        told = subst (λ (l : List (Item CallEnd)). AddsItems w (l ++ good_end (Modifies session fin) (collect_entry session said ∷ [])) a c) (sym (append-nil items))
            (subst (λ (l : List (Item CallEnd)). AddsItems w (items ++ l) a c) (sym (good_is s session fin said b is)) told);
        halted = halted_same w0 w b m c ends ∙ halted;
        left = λ alive. left;
      }
