-- What the entries of an action are: commands that were asked for, one after another, and a Leave at most.
use Rattle.std.proofs.Common.{◌≡◌, ℕ, ℤ, Bool, true, false, ◌||◌, map, List, [], ◌∷◌, ◌++◌, Option, Some, None, refl, sym, ap, ◌∙◌, subst, append-nil}
use Rattle.std.specs.Prelude.{not, if◌then◌else◌}
use Rattle.std.specs.List.{list_any, flat_map, cons_option}
use Rattle.std.specs.Option.{option_map_or}
use Rattle.std.proofs.lemmas.Bool.{or_parts}
use Rattle.std.proofs.lemmas.List.Folds.{list_any-append}
use Rattle.std.proofs.lemmas.List.Elements.{filter_map-append}
use Rattle.grpc_heads.specs.CallEnd.{CallEnd}
use Rattle.grpc_heads.specs.declared.head.Method.{Method}
use Rattle.h2_exchange.specs.Calls.{Call}
use Rattle.h2_exchange.specs.StreamParts.{Item}
use Rattle.table_model.specs.declared.command.Command.{Command}
use Rattle.table_model.specs.declared.command.Command.TheVariants as command
use Rattle.table_model.specs.declared.command.Operation.{Operation}
use Rattle.table_model.specs.declared.params.AskedParams.{AskedParams}
use Rattle.table_model.specs.declared.reply.Reply.{Reply}
use Rattle.table_model.specs.declared.reply.Reply.TheVariants as reply
use Rattle.table_model.specs.Event.{Event}
use Rattle.call_answers.specs.Orders.{commands_of}
use Rattle.call_answers.specs.declared.orders.Orders.{Orders}
use Rattle.call_answers.specs.declared.orders.Setting.{Setting}
use Rattle.call_orders.specs.Owed.{is_leave, items_for, ends_call, has_end, is_end}
use Rattle.call_orders.specs.Calls.{Standing, without_leaves}
use Rattle.call_orders.specs.Actions.{timeless, AreDone, AreDoneUnless, AreDoneInPart, AreDoneOrCut}
use Rattle.table_model.specs.Sessions.{leaving_session}
use Rattle.call_orders.specs.Orders.{begun_by, left_by, begun_in, left_in}
use Rattle.call_orders.specs.Laws.{session_of, is_begin, is_stray}

-- ---- each of a list

unfoldable pub Each : {A : Type 0} → (A → Type 0) → List A → Type 0
Each P [] = Unit {0}
Each P (x ∷ xs) = P x × Each P xs

pub each_append : {A : Type 0} (P : A → Type 0) (xs ys : List A) → Each P xs → Each P ys → Each P (xs ++ ys)
unfolding Each
each_append P [] ys e f = f
each_append P (x ∷ xs) ys e f = (e.0, each_append P xs ys e.1 f)

pub each_first : {A : Type 0} (P : A → Type 0) (xs ys : List A) → Each P (xs ++ ys) → Each P xs
unfolding Each
each_first P [] ys e = tt
each_first P (x ∷ xs) ys e = (e.0, each_first P xs ys e.1)

pub each_at : {A : Type 0} (P : A → Type 0) (xs : List A) (x : A) (ys : List A) → Each P (xs ++ x ∷ ys) → P x
unfolding Each
each_at P [] x ys e = e.0
each_at P (y ∷ xs) x ys e = each_at P xs x ys e.1

pub each_one : {A : Type 0} (P : A → Type 0) (x : A) → P x → Each P (x ∷ [])
unfolding Each
each_one P x p = (p, tt)

pub each_none : {A : Type 0} (P : A → Type 0) → Each P []
unfolding Each
each_none P = tt

-- ---- commands that are done

-- what says of a command nothing that its moment decides
pub record Timeless (P : Command → Type 0) : Type 0 where
  pub carried : (c d : Command) → timeless c ≡ timeless d → P d → P c

each_rest : (P : Command → Type 0) (b : Bool) (done : List Event) (more : Type 0) → AreDoneUnless b done more → (more → Each (λ (e : Event). P e.command) done) → Each (λ (e : Event). P e.command) done
unfolding Each
each_rest P true done more h k = subst (λ (l : List Event). Each (λ (e : Event). P e.command) l) (sym h) tt
each_rest P false done more h k = k h

pub each_done : (s : Setting) (P : Command → Type 0) → Timeless P → (cs : List Command) (done : List Event) → AreDone s cs done → Each P cs → Each (λ (e : Event). P e.command) done
unfolding Each
each_done s P t [] done a e = subst (λ (l : List Event). Each (λ (e : Event). P e.command) l) (sym a) tt
each_done s P t (c ∷ cs) [] a e = absurd a
each_done s P t (c ∷ cs) (d ∷ done) a e = (t.carried d.command c a.0 e.0, each_rest P (ends_call s d) done (AreDone s cs done) a.1 (λ h. each_done s P t cs done h e.1))

pub in_part : (s : Setting) (cut : Option ℕ) (st : Standing) (call : Call Method CallEnd) (cs : List Command) (done : List Event) (items : List (Item CallEnd))
    → AreDoneOrCut s cut st call cs done items → AreDoneInPart s cs done
in_part s None st call cs done items a = ([], subst (AreDone s cs) (sym (append-nil done)) a)
in_part s (Some made) st call cs done items a = a.1

pub each_part : (s : Setting) (P : Command → Type 0) → Timeless P → (cs : List Command) (done : List Event) → AreDoneInPart s cs done → Each P cs → Each (λ (e : Event). P e.command) done
each_part s P t cs done a e = each_first (λ (e : Event). P e.command) done a.0 (each_done s P t cs (done ++ a.0) a.1 e)

nothing_first : (xs ys : List Event) → xs ++ ys ≡ [] → xs ≡ []
nothing_first [] ys e = refl
nothing_first (x ∷ xs) ys e = absurd cc

-- where nothing was asked for, nothing is done
pub none_done : (s : Setting) (cs : List Command) (done : List Event) → cs ≡ [] → AreDoneInPart s cs done → done ≡ []
none_done s cs done e a = nothing_first done a.0 (subst (λ (l : List Command). AreDone s l (done ++ a.0)) e a.1)

-- ---- what commands bear

pub session_timeless : (c : Command) → session_of (timeless c) ≡ session_of c
session_timeless (command.Operate session operation now) = refl
session_timeless (command.Flush by which now) = refl
session_timeless command.Begin = refl
session_timeless (command.SetParams session asked) = refl
session_timeless (command.Announce session id) = refl
session_timeless (command.Collect session) = refl
session_timeless (command.Leave session) = refl
session_timeless (command.Select which kinds) = refl
session_timeless (command.Take worker now) = refl
session_timeless (command.Report job verdict now) = refl
session_timeless command.Halt = refl

pub begin_timeless : (c : Command) → is_begin (timeless c) ≡ is_begin c
begin_timeless (command.Operate session operation now) = refl
begin_timeless (command.Flush by which now) = refl
begin_timeless command.Begin = refl
begin_timeless (command.SetParams session asked) = refl
begin_timeless (command.Announce session id) = refl
begin_timeless (command.Collect session) = refl
begin_timeless (command.Leave session) = refl
begin_timeless (command.Select which kinds) = refl
begin_timeless (command.Take worker now) = refl
begin_timeless (command.Report job verdict now) = refl
begin_timeless command.Halt = refl

-- a command of this session, or of none, that is no Begin
abbrev pub Bears : Option ℕ → Command → Type 0
Bears o c = (session_of c ≡ o) × (is_begin c ≡ false)

pub bears_timeless : (o : Option ℕ) → Timeless (Bears o)
bears_timeless o = record {
  carried = λ c d same bears. (
    sym (session_timeless c) ∙ (ap session_of same ∙ (session_timeless d ∙ bears.0)),
    sym (begin_timeless c) ∙ (ap is_begin same ∙ (begin_timeless d ∙ bears.1)),
  );
}

each_params : (session : ℕ) (o : Option AskedParams) → Each (Bears (Some session)) (option_map_or (λ asked. command.SetParams session asked ∷ []) o [])
unfolding Each
each_params session None = tt
each_params session (Some asked) = ((refl, refl), tt)

each_election : (session : ℕ) (o : Option ℕ) → Each (Bears (Some session)) (option_map_or (λ id. command.Announce session id ∷ []) o [])
unfolding Each
each_election session None = tt
each_election session (Some id) = ((refl, refl), tt)

each_operation : (session : ℕ) (now : ℤ) (os : List Operation) → Each (Bears (Some session)) (map (λ operation. command.Operate session operation now) os)
unfolding Each
each_operation session now [] = tt
each_operation session now (o ∷ os) = ((refl, refl), each_operation session now os)

-- each command for a message is one of its session
pub each_order : (session : ℕ) (now : ℤ) (orders : Orders) → Each (Bears (Some session)) (commands_of session now orders)
each_order session now orders =
    let P : Command → Type 0 = Bears (Some session) in
    each_append P _ _ (each_append P _ _ (each_params session orders.params) (each_election session orders.election)) (each_operation session now orders.operations)

-- ---- entries

pub begun_append : (xs ys : List Event) → begun_in (xs ++ ys) ≡ begun_in xs ++ begun_in ys
begun_append xs ys = filter_map-append begun_by xs ys

pub stray_parts : (xs ys : List Event) → list_any is_stray (xs ++ ys) ≡ false → (list_any is_stray xs ≡ false) × (list_any is_stray ys ≡ false)
stray_parts xs ys e = or_parts (list_any is_stray xs) (list_any is_stray ys) (sym (list_any-append is_stray xs ys) ∙ e)

-- an entry of another command than Begin begins no session
begun_none : (c : Command) (r : Reply) → is_stray (record { command = c; reply = r }) ≡ false → is_begin c ≡ false → begun_by (record { command = c; reply = r }) ≡ None
begun_none c (reply.Began session) e f = absurd (clash (is_begin c) e f)
  where
    clash : (b : Bool) → not b ≡ false → b ≡ false → ⊥
    clash true e f = cc
    clash false e f = cc
begun_none c said e f = refl

-- entries of other commands begin no session
pub begun_nothing : (o : Option ℕ) (xs : List Event) → Each (λ (e : Event). Bears o e.command) xs → list_any is_stray xs ≡ false → begun_in xs ≡ []
unfolding Each
begun_nothing o [] e f = refl
begun_nothing o (x ∷ xs) e f =
    let r = or_parts (is_stray x) (list_any is_stray xs) f in
    ap (λ (y : Option ℕ). cons_option y (begun_in xs)) (begun_none x.command x.reply r.0 e.0.1) ∙ begun_nothing o xs e.1 r.1

if_leave : (e : Event) (xs : List Event) (b : Bool) → not (is_leave e.command) ≡ b → left_in (without_leaves xs) ≡ [] → left_in (if b then e ∷ without_leaves xs else without_leaves xs) ≡ []
if_leave e xs false is rest = rest
if_leave e xs true is rest = ap (λ (y : Option ℕ). cons_option y (left_in (without_leaves xs))) (not_leaving e.command is) ∙ rest
  where
    not_leaving : (c : Command) → not (is_leave c) ≡ true → leaving_session c ≡ None
    not_leaving (command.Leave session) e = absurd cc
    not_leaving (command.Operate session operation now) e = refl
    not_leaving (command.Flush by which now) e = refl
    not_leaving command.Begin e = refl
    not_leaving (command.SetParams session asked) e = refl
    not_leaving (command.Announce session id) e = refl
    not_leaving (command.Collect session) e = refl
    not_leaving (command.Select which kinds) e = refl
    not_leaving (command.Take worker now) e = refl
    not_leaving (command.Report job verdict now) e = refl
    not_leaving command.Halt e = refl

-- the entries but for the Leave end no session
pub left_nothing : (xs : List Event) → left_in (without_leaves xs) ≡ []
left_nothing [] = refl
left_nothing (e ∷ xs) = if_leave e xs (not (is_leave e.command)) refl (left_nothing xs)

pub left_append : (xs ys : List Event) → left_in (xs ++ ys) ≡ left_in xs ++ left_in ys
left_append xs ys = filter_map-append left_by xs ys

-- ---- ends

-- an end is among what entries owe where one of them owes it
pub any_end : (s : Setting) (done : List Event) → has_end (flat_map (items_for s) done) ≡ list_any (ends_call s) done
any_end s [] = refl
any_end s (e ∷ done) = list_any-append is_end (items_for s e) (flat_map (items_for s) done) ∙ ap (λ (b : Bool). ends_call s e || b) (any_end s done)

pub end_behind : (s : Setting) (done : List Event) (more : List (Item CallEnd)) → has_end (flat_map (items_for s) done ++ more) ≡ (list_any (ends_call s) done || has_end more)
end_behind s done more = list_any-append is_end (flat_map (items_for s) done) more ∙ ap (λ (b : Bool). b || has_end more) (any_end s done)
