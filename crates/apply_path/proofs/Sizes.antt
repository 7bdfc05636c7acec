-- What was spelled is the answer that is owed.
use Rattle.std.proofs.Common.{◌≡◌, ℕ, Bool, true, false, List, [], ◌++◌, Option, Some, None, refl, sym, ap, ◌∙◌}
use Rattle.std.specs.Option.{option_map_or}
use Rattle.schema_numbers.specs.Numbers.{Numbers}
use Rattle.gribi_messages.specs.declared.response.ModifyResponse.{ModifyResponse}
use Rattle.gribi_messages.specs.Response.{response_bytes}
use Rattle.std.specs.Prelude.{ℤ}
use Rattle.grpc_framing.specs.Framing.{item}
use Rattle.table_model.specs.declared.reply.Reply.{Reply}
use Rattle.call_answers.specs.Answers.{Answers, response_for, one_result, operation_result}
use Rattle.apply_path.specs.History.{response_item}
use Rattle.aft_entries.specs.declared.operation.Reason.{Reason}
use Rattle.table_model.specs.Reply.{operate_reply}

-- the answer that was spelled is the one that is owed
spelled : (n : Numbers) (id : ℕ) (now : ℤ) (answer : Reply) (has_response : Bool) (o : Option ModifyResponse) (before after : List ℕ) → before ≡ [] → has_response ≡ true → Answers n has_response o before after
    → (r : ModifyResponse) × (o ≡ Some r) × (after ≡ response_bytes n r)
spelled n id now answer has_response None before after none here a = absurd cc
spelled n id now answer has_response (Some r) before after none here a = (r, refl, a.1 ∙ ap (λ (x : List ℕ). x ++ response_bytes n r) none)

pub spelled_item : (n : Numbers) (id : ℕ) (now : ℤ) (answer : Reply) (has_response : Bool) (before after : List ℕ) → before ≡ [] → has_response ≡ true → Answers n has_response (response_for n id now answer) before after → item after ≡ response_item n id now answer
unfolding response_item
spelled_item n id now answer has_response before after none here a =
    let s = spelled n id now answer has_response (response_for n id now answer) before after none here a in
    ap item s.2 ∙ sym (ap (λ (o : Option ModifyResponse). option_map_or (λ r. item (response_bytes n r)) o []) s.1)

unspelled_in : (n : Numbers) (has_response : Bool) (o : Option ModifyResponse) (before after : List ℕ) → has_response ≡ false → Answers n has_response o before after → option_map_or (λ r. item (response_bytes n r)) o [] ≡ []
unspelled_in n has_response None before after not_here a = refl
unspelled_in n has_response (Some r) before after not_here a = absurd cc

pub unspelled : (n : Numbers) (id : ℕ) (now : ℤ) (answer : Reply) (has_response : Bool) (before after : List ℕ) → has_response ≡ false → Answers n has_response (response_for n id now answer) before after → response_item n id now answer ≡ []
unfolding response_item
unspelled n id now answer has_response before after not_here a = unspelled_in n has_response (response_for n id now answer) before after not_here a

-- the same of the result of an operation
result_owed : (n : Numbers) (id : ℕ) (now : ℤ) (failed : Option Reason) → response_for n id now (operate_reply failed) ≡ Some (one_result (operation_result n id now failed))
result_owed n id now None = refl
result_owed n id now (Some reason) = refl

module _ (n : Numbers) (id : ℕ) (now : ℤ) (failed : Option Reason) (before after : List ℕ) (none : before ≡ []) (spelled_so : after ≡ before ++ response_bytes n (one_result (operation_result n id now failed))) where
  result_is : after ≡ response_bytes n (one_result (operation_result n id now failed))
  result_is = spelled_so ∙ ap (λ (x : List ℕ). x ++ response_bytes n (one_result (operation_result n id now failed))) none

  pub result_item : item after ≡ response_item n id now (operate_reply failed)
  unfolding response_item
  result_item = ap item result_is ∙ sym (ap (λ (o : Option ModifyResponse). option_map_or (λ r. item (response_bytes n r)) o []) (result_owed n id now failed))
