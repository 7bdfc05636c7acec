-- A checked operation from its key and its payload.
use Rattle.std.proofs.Common.{◌≡◌, ℕ, Bool, true, false, refl, sym, ap, ◌∙◌, Option, Some, None, Result, Ok, Err, List}
use Rattle.std.specs.Prelude.{option_map, unwrap_or, IfOk, if◌then◌else◌}
use Rattle.aft_entries.specs.declared.entry.HopPayload.{HopPayload}
use Rattle.aft_entries.specs.declared.entry.GroupPayload.{GroupPayload}
use Rattle.aft_entries.specs.declared.entry.RoutePayload.{RoutePayload}
use Rattle.aft_entries.specs.declared.entry.Payload.{Payload}
use Rattle.aft_entries.specs.declared.entry.Payload.TheVariants as payload
use Rattle.aft_entries.specs.declared.key.Key.{Key}
use Rattle.aft_entries.specs.declared.key.KeyName.{KeyName}
use Rattle.aft_entries.specs.declared.key.KeyName.TheVariants as name
use Rattle.aft_entries.specs.declared.operation.Ask.{Ask}
use Rattle.aft_entries.specs.declared.operation.Ask.TheVariants.{Put, Remove, Bad}
use Rattle.aft_entries.specs.declared.operation.Op.{Op}
use Rattle.aft_entries.specs.declared.operation.Op.TheVariants.{Add, Replace, Delete}
use Rattle.aft_entries.specs.declared.operation.RawEntry.{RawEntry}
use Rattle.aft_entries.specs.declared.operation.RawEntry.TheVariants as raw
use Rattle.aft_entries.specs.declared.operation.RawOperation.{RawOperation}
use Rattle.aft_entries.specs.declared.operation.Reason.{Reason}
use Rattle.aft_entries.specs.Checked.{checked, checked_parts, name_of, payload_of, is_unsupported}
use Rattle.aft_entries.specs.Steps.{key_parts, key_asked, put_or}
use Rattle.aft_entries.specs.InstanceNames.{number_of}
use Rattle.aft_entries.specs.Shapes.{EntryValue, fits}

abbrev pub by_op : Op → Key → Option Payload → Ask
by_op Add key payload = put_or key false payload
by_op Replace key payload = put_or key true payload
by_op Delete key payload = Remove key

abbrev pub finish : Result (Op × Key) Reason → Option Payload → Ask
finish (Err reason) payload = Bad reason
finish (Ok p) payload = by_op p.0 p.1 payload

parts_finish : (op : Option Op) (unsupported : Bool) (instance : Option ℕ) (name : Option KeyName) (payload : Option Payload) → checked_parts op unsupported instance name payload ≡ finish (key_parts op unsupported instance name) payload
parts_finish None unsupported instance name payload = refl
parts_finish (Some op) true instance name payload = refl
parts_finish (Some op) false None name payload = refl
parts_finish (Some op) false (Some instance) None payload = refl
parts_finish (Some Add) false (Some instance) (Some name) None = refl
parts_finish (Some Add) false (Some instance) (Some name) (Some payload) = refl
parts_finish (Some Replace) false (Some instance) (Some name) None = refl
parts_finish (Some Replace) false (Some instance) (Some name) (Some payload) = refl
parts_finish (Some Delete) false (Some instance) (Some name) None = refl
parts_finish (Some Delete) false (Some instance) (Some name) (Some payload) = refl

instance_in : Result (Op × Key) Reason → ℕ
instance_in (Err reason) = 0
instance_in (Ok p) = p.1.instance

name_in : Result (Op × Key) Reason → Option KeyName
name_in (Err reason) = None
name_in (Ok p) = Some p.1.name

module _ (op : Op) (key : Key) where
  instance_is : (o : Option Op) (unsupported : Bool) (instance : Option ℕ) (name : Option KeyName) → key_parts o unsupported instance name ≡ Ok (op, key) → unwrap_or instance 0 ≡ key.instance
  unfolding instance_in
  instance_is None unsupported instance name e = cc
  instance_is (Some o) true instance name e = cc
  instance_is (Some o) false None name e = cc
  instance_is (Some o) false (Some instance) None e = cc
  instance_is (Some o) false (Some instance) (Some name) e = ap instance_in e

  name_is : (o : Option Op) (unsupported : Bool) (instance : Option ℕ) (name : Option KeyName) → key_parts o unsupported instance name ≡ Ok (op, key) → name ≡ Some key.name
  unfolding name_in
  name_is None unsupported instance name e = cc
  name_is (Some o) true instance name e = cc
  name_is (Some o) false None name e = cc
  name_is (Some o) false (Some instance) None e = cc
  name_is (Some o) false (Some instance) (Some name) e = ap name_in e

  -- the key that is asked about has the name of the entry
  pub asked_name : (instances : List (List ℕ)) (operation : RawOperation) → Ok (op, key) ≡ key_asked instances operation → name_of operation.entry ≡ Some key.name
  unfolding key_asked
  asked_name instances operation e = name_is operation.op (is_unsupported operation.entry) (number_of instances operation.instance) (name_of operation.entry) (sym e)

  pub checked_ok : (instances : List (List ℕ)) (operation : RawOperation) → Ok (op, key) ≡ key_asked instances operation → checked instances operation ≡ by_op op key (payload_of instances key.instance operation.entry)
  unfolding checked key_asked
  checked_ok instances operation e =
      let number = number_of instances operation.instance in
      let at : unwrap_or number 0 ≡ key.instance = instance_is operation.op (is_unsupported operation.entry) number (name_of operation.entry) (sym e) in
      parts_finish operation.op (is_unsupported operation.entry) number (name_of operation.entry) (payload_of instances (unwrap_or number 0) operation.entry)
      ∙ ap (λ r. finish r (payload_of instances (unwrap_or number 0) operation.entry)) (sym e)
      ∙ ap (λ own. by_op op key (payload_of instances own operation.entry)) at

pub checked_err : (instances : List (List ℕ)) (operation : RawOperation) (reason : Reason) → Err reason ≡ key_asked instances operation → checked instances operation ≡ Bad reason
unfolding checked key_asked
checked_err instances operation reason e =
    let number = number_of instances operation.instance in
    parts_finish operation.op (is_unsupported operation.entry) number (name_of operation.entry) (payload_of instances (unwrap_or number 0) operation.entry)
    ∙ ap (λ r. finish r (payload_of instances (unwrap_or number 0) operation.entry)) (sym e)

-- what is asked, from the op and the key and what became of the payload
pub removed : (op : Op) (key : Key) (instances : List (List ℕ)) (operation : RawOperation) (parts : Result (Op × Key) Reason) → parts ≡ Ok (op, key) → op ≡ Delete → parts ≡ key_asked instances operation → Remove key ≡ checked instances operation
removed op key instances operation parts is deletes asked =
    sym (checked_ok op key instances operation (sym is ∙ asked) ∙ ap (λ op. by_op op key (payload_of instances key.instance operation.entry)) deletes)

same_ask : {E : Type 0} (result : Result Ask E) (a b : Ask) → a ≡ b → IfOk result (λ ask. ask ≡ a) → IfOk result (λ ask. ask ≡ b)
same_ask (Ok ask) a b same is = is ∙ same
same_ask (Err e) a b same is = is

pub put : {E : Type 0} (op : Op) (key : Key) (instances : List (List ℕ)) (operation : RawOperation) (parts : Result (Op × Key) Reason) (replace : Bool) (result : Result Ask E) → parts ≡ Ok (op, key) → ((payload : Option Payload) → by_op op key payload ≡ put_or key replace payload) → parts ≡ key_asked instances operation → IfOk result (λ ask. ask ≡ put_or key replace (payload_of instances key.instance operation.entry)) → IfOk result (λ ask. ask ≡ checked instances operation)
put op key instances operation parts replace result is puts asked done =
    same_ask result (put_or key replace (payload_of instances key.instance operation.entry)) (checked instances operation)
    (sym (checked_ok op key instances operation (sym is ∙ asked) ∙ puts (payload_of instances key.instance operation.entry))) done

-- A payload that is read fits the name that is read

hop_fits : (o : Option ℕ) (b : Bool) (hop : HopPayload) (n : KeyName) (p : Payload) → option_map name.Hop o ≡ Some n → (if b then None else Some (payload.Hop hop)) ≡ Some p → fits n p ≡ true
hop_fits None b hop n p e d = cc
hop_fits (Some x) true hop n p e d = cc
hop_fits (Some x) false hop n p e d = let a : name.Hop x ≡ n = cc in let b : payload.Hop hop ≡ p = cc in rw (← a, ← b) refl

group_fits : (o : Option ℕ) (b : Bool) (group : GroupPayload) (n : KeyName) (p : Payload) → option_map name.Group o ≡ Some n → (if b then None else Some (payload.Group group)) ≡ Some p → fits n p ≡ true
group_fits None b group n p e d = cc
group_fits (Some x) true group n p e d = cc
group_fits (Some x) false group n p e d = let a : name.Group x ≡ n = cc in let b : payload.Group group ≡ p = cc in rw (← a, ← b) refl

route_fits : {X : Type 0} (make : X → KeyName) (right : (x : X) (r : RoutePayload) → fits (make x) (payload.Route r) ≡ true) (o : Option X) (route : Option RoutePayload) (n : KeyName) (p : Payload) → option_map make o ≡ Some n → option_map payload.Route route ≡ Some p → fits n p ≡ true
route_fits make right None route n p e d = cc
route_fits make right (Some x) None n p e d = cc
route_fits make right (Some x) (Some r) n p e d = let a : make x ≡ n = cc in let b : payload.Route r ≡ p = cc in rw (← a, ← b) (right x r)

pub reads_fit : (instances : List (List ℕ)) (own : ℕ) (entry : Option RawEntry) (n : KeyName) (p : Payload) → name_of entry ≡ Some n → Some p ≡ payload_of instances own entry → fits n p ≡ true
reads_fit instances own None n p e d = cc
reads_fit instances own (Some (raw.Hop index hop)) n p e d = hop_fits _ _ _ n p e (sym d)
reads_fit instances own (Some (raw.Group id group)) n p e d = group_fits _ _ _ n p e (sym d)
reads_fit instances own (Some (raw.V4 prefix route)) n p e d = route_fits name.V4 (λ x r. refl) _ _ n p e (sym d)
reads_fit instances own (Some (raw.V6 prefix route)) n p e d = route_fits name.V6 (λ x r. refl) _ _ n p e (sym d)
reads_fit instances own (Some (raw.Label label route)) n p e d = route_fits name.Label (λ x r. refl) _ _ n p e (sym d)
reads_fit instances own (Some raw.Mac) n p e d = cc
reads_fit instances own (Some raw.Policy) n p e d = cc

put_fits : (op : Option Op) (unsupported : Bool) (instance : Option ℕ) (name : Option KeyName) (payload : Option Payload) (entry : EntryValue) (replace : Bool)
    → ((n : KeyName) (p : Payload) → name ≡ Some n → payload ≡ Some p → fits n p ≡ true)
    → checked_parts op unsupported instance name payload ≡ Put entry replace → fits entry.key.name entry.payload ≡ true
put_fits None unsupported instance name payload entry replace h e = absurd cc
put_fits (Some op) true instance name payload entry replace h e = absurd cc
put_fits (Some op) false None name payload entry replace h e = absurd cc
put_fits (Some op) false (Some instance) None payload entry replace h e = absurd cc
put_fits (Some Add) false (Some instance) (Some name) None entry replace h e = absurd cc
put_fits (Some Add) false (Some instance) (Some name) (Some payload) entry replace h e =
    let same : record { key = record { instance = instance; name = name }; payload = payload } ≡ entry = cc in rw (← same) (h name payload refl refl)
put_fits (Some Replace) false (Some instance) (Some name) None entry replace h e = absurd cc
put_fits (Some Replace) false (Some instance) (Some name) (Some payload) entry replace h e =
    let same : record { key = record { instance = instance; name = name }; payload = payload } ≡ entry = cc in rw (← same) (h name payload refl refl)
put_fits (Some Delete) false (Some instance) (Some name) payload entry replace h e = absurd (delete_in payload e)
  where
    delete_in : (o : Option Payload) → checked_parts (Some Delete) false (Some instance) (Some name) o ≡ Put entry replace → ⊥
    delete_in None e = cc
    delete_in (Some payload) e = cc

-- an entry that is put has a payload of its key's kind
pub checked_fits : (instances : List (List ℕ)) (operation : RawOperation) (entry : EntryValue) (replace : Bool) → checked instances operation ≡ Put entry replace → fits entry.key.name entry.payload ≡ true
unfolding checked
checked_fits instances operation entry replace e =
    let number = number_of instances operation.instance in
    let own = unwrap_or number 0 in
    put_fits operation.op (is_unsupported operation.entry) number (name_of operation.entry) (payload_of instances own operation.entry) entry replace
    (λ n p named read. reads_fit instances own operation.entry n p named (sym read)) e
