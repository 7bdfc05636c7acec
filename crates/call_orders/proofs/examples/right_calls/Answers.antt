use Rattle.std.proofs.Common.{◌≡◌, false, List, ℕ, pos, refl, sym, subst, [], ◌∷◌, ◌++◌, Option, Some, None, arith}
use Rattle.std.specs.List.{flat_map}
use Rattle.std.specs.Option.{option_map}
use Rattle.proto_schema.specs.declared.schema.MessageKind.TheVariants as message
use Rattle.proto_schema.specs.declared.legal.MessageFault.{MessageFault}
use Rattle.proto_schema.specs.Legal.{first_fault}
use Rattle.grpc_heads.specs.declared.head.Method.TheVariants.{Modify}
use Rattle.h2_exchange.specs.Calls.{Begun, Request, Dropped}
use Rattle.table_model.specs.declared.command.Command.TheVariants as command
use Rattle.table_model.specs.declared.reply.Reply.TheVariants as reply
use Rattle.table_model.specs.Event.{Event}
use Rattle.call_answers.specs.Orders.{orders_of, commands_of}
use Rattle.call_answers.specs.declared.orders.Orders.{Orders}
use Rattle.call_answers.specs.declared.orders.Setting.{Setting}
use Rattle.call_orders.specs.Owed.{end_items, items_for}
use Rattle.call_requests.specs.Asked.{bad_message}
use Rattle.call_orders.specs.Calls.{Modifies, Standing, Handles, after, cut_by, not_begun, owing, standing, unless_fault, without_leaves}
use Rattle.call_orders.specs.Actions.{AreActions, AreDone, IsHandled, Leaves, MayBeMade}
use Rattle.call_orders.specs.Examples.{did, leaves, operates, operation}
use Rattle.call_orders.proofs.examples.right_calls.Goals as goal

abbrev asked : Orders
asked = record { params = None; election = None; operations = operation 1 ∷ operation 2 ∷ operation 3 ∷ [] }

abbrev open_7 : Standing
open_7 = record { state = Modifies 7 false; items = [] }

-- what is done for the message is what it orders
orders : (s : Setting) (m : List ℕ) (w : List Event) → first_fault s.numbering message.ModifyRequest m ≡ None → orders_of s m ≡ asked → AreDone s (commands_of 7 (pos 0) asked) w
    → AreDone s (unless_fault (first_fault s.numbering message.ModifyRequest m) (commands_of 7 (pos 0) (orders_of s m))) w
orders s m w e o h =
    subst (λ (f : Option MessageFault). AreDone s (unless_fault f (commands_of 7 (pos 0) (orders_of s m))) w) (sym e)
    (subst (λ (r : Orders). AreDone s (commands_of 7 (pos 0) r) w) (sym o) h)

-- how the call stands behind a message with this fault
abbrev behind : Setting → List Event → Option ℕ → Option MessageFault → Standing
behind s did cut f = cut_by cut (owing open_7 (Modifies 7 false) (flat_map (items_for s) (without_leaves did) ++ end_items (option_map bad_message f)))

leaves_then : (s : Setting) (m : List ℕ) (did last : List Event) (cut : Option ℕ) → first_fault s.numbering message.ModifyRequest m ≡ None
    → Leaves (Some 7) (behind s did cut None).state last → Leaves (Some 7) (after s open_7 (Handles (Request 1 m) did cut)).state last
leaves_then s m did last cut e h = subst (λ (f : Option MessageFault). Leaves (Some 7) (behind s did cut f).state last) (sym e) h

may_made : (s : Setting) (m : List ℕ) (w : List Event) (made : ℕ) → first_fault s.numbering message.ModifyRequest m ≡ None
    → MayBeMade made [] (behind s w None None).items → MayBeMade made [] (behind s w None (first_fault s.numbering message.ModifyRequest m)).items
may_made s m w made e h = subst (λ (f : Option MessageFault). MayBeMade made [] (behind s w None f).items) (sym e) h

abbrev three : List Event
three = operates 1 reply.RibDone ∷ operates 2 reply.RibDone ∷ operates 3 reply.RibDone ∷ []

abbrev refused : List Event
refused = operates 1 reply.RibDone ∷ operates 2 reply.NoParams ∷ []

done : (s : Setting) (m : List ℕ) → first_fault s.numbering message.ModifyRequest m ≡ None → orders_of s m ≡ asked → IsHandled s open_7 (Request 1 m) three None
done s m e o = record { last = []; did_is = refl; made = orders s m three e o (refl, (refl, (refl, refl))); leaves = leaves_then s m three [] None e refl }

begun : (s : Setting) → IsHandled s not_begun (Begun 1 Modify) (did command.Begin (reply.Began 7) ∷ []) None
begun s = record { last = []; did_is = refl; made = (refl, refl); leaves = refl }

dropped_then : (s : Setting) (m : List ℕ) → first_fault s.numbering message.ModifyRequest m ≡ None
    → IsHandled s (behind s three None (first_fault s.numbering message.ModifyRequest m)) (Dropped 1) (leaves ∷ []) None
dropped_then s m e = subst (λ (f : Option MessageFault). IsHandled s (behind s three None f) (Dropped 1) (leaves ∷ []) None) (sym e)
    (record { last = leaves ∷ []; did_is = refl; made = refl; leaves = (reply.Left, refl) })

first_alone : (s : Setting) (m : List ℕ) → first_fault s.numbering message.ModifyRequest m ≡ None → orders_of s m ≡ asked
    → IsHandled s open_7 (Request 1 m) (operates 1 reply.RibDone ∷ leaves ∷ []) (Some 1)
first_alone s m e o = record {
  last = leaves ∷ [];
  did_is = refl;
  made = (
    refl,
    (operates 2 reply.RibDone ∷ operates 3 reply.RibDone ∷ [], orders s m three e o (refl, (refl, (refl, refl)))),
    may_made s m (operates 1 reply.RibDone ∷ []) 1 e (omega arith, omega arith, refl),
  );
  leaves = (reply.Left, refl);
}

ended_then : (s : Setting) (m : List ℕ) → first_fault s.numbering message.ModifyRequest m ≡ None → orders_of s m ≡ asked
    → IsHandled s open_7 (Request 1 m) (operates 1 reply.RibDone ∷ operates 2 reply.NoParams ∷ leaves ∷ []) None
ended_then s m e o = record {
  last = leaves ∷ [];
  did_is = refl;
  made = orders s m refused e o (refl, (refl, refl));
  leaves = leaves_then s m (operates 1 reply.RibDone ∷ operates 2 reply.NoParams ∷ leaves ∷ []) (leaves ∷ []) None e (reply.Left, refl);
}

pub returns : goal.returns
unfolding standing AreActions
returns c = λ s m e o. record {
  dropped = (dropped_then s m e, (done s m e o, (begun s, tt)));
  lacking = (first_alone s m e o, (begun s, tt));
  ended = (ended_then s m e o, (begun s, tt));
}
