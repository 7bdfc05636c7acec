-- How an action settles: what its call is owed, how it stands, and whether its session left.
use Rattle.std.proofs.Common.{◌≡◌, ℕ, Bool, true, false, not, ◌||◌, if◌then◌else◌, map, take, length, IfSome, List, [], ◌∷◌, ◌++◌, Option, Some, None, refl, sym, ap, ◌∙◌, subst, append_assoc, append-nil, arith, length-append}
use Rattle.std.specs.List.{flat_map, list_any}
use Rattle.std.proofs.lemmas.List.{take_at}
use Rattle.grpc_heads.specs.declared.head.Method.{Method}
use Rattle.grpc_heads.specs.CallEnd.{CallEnd}
use Rattle.h2_exchange.specs.Calls.{Call, Request}
use Rattle.h2_exchange.specs.StreamParts.{Item, Message}
use Rattle.table_model.specs.declared.command.Command.{Command}
use Rattle.table_model.specs.declared.reply.Reply.{Reply}
use Rattle.table_model.specs.Event.{Event}
use Rattle.call_answers.specs.declared.orders.Setting.{Setting}
use Rattle.call_orders.specs.Owed.{end_items, has_end, is_leave, items_for, want_of_memory}
use Rattle.call_orders.specs.Calls.{CallState, Modifies, Over, Standing, Handles, Collects, after, collected, cut_by, good_end, handled, owing, without_leaves}
use Rattle.call_orders.specs.Actions.{AreDoneOrCut, IsAction, Leaves, MayBeMade, leave, may_be_cut}
use Rattle.session_engine.specs.declared.step.Step.{Step}
use Rattle.session_engine.specs.declared.step.Progress.{Progress}
use Rattle.session_engine.specs.declared.step.Progress.TheVariants.{GoesOn, Ended, OutOfMemory, Spent}
use Rattle.session_engine.specs.Stands.{items_in}
use Rattle.session_engine.specs.Steps.{AddsItems, AnswerAll, asked_by_message, collect_entry, refused_by_message}
use Rattle.session_engine.proofs.CommandRuns.{ends_neither}

-- ---- entries but for the Leave

leaves_step : (b rest : Bool) (e : Event) (w d : List Event) → (rest ≡ false → w ≡ d) → (b || rest) ≡ false → (if not b then e ∷ w else w) ≡ e ∷ d
leaves_step true rest e w d ih h = absurd (cc h)
leaves_step false rest e w d ih h = ap (λ (l : List Event). e ∷ l) (ih h)

pub without_tail : (d tail : List Event) → list_any (λ e. is_leave e.command) d ≡ false → without_leaves (d ++ tail) ≡ d ++ without_leaves tail
without_tail [] tail h = refl
without_tail (e ∷ d) tail h = leaves_step (is_leave e.command) (list_any (λ (x : Event). is_leave x.command) d) e (without_leaves (d ++ tail)) (d ++ without_leaves tail) (without_tail d tail) h

-- ---- how an action settles

abbrev pub settled_state : Progress → CallState → CallState
settled_state GoesOn state = state
settled_state other state = Over

-- what stands behind the commands: nothing where the call goes on, else the Leave
abbrev pub IsLast : Progress → ℕ → List Event → Type 0
IsLast GoesOn session last = last ≡ []
IsLast other session last = (said : Reply) × (last ≡ leave session said ∷ [])

pub record Settled (st : Standing) (w : Progress) (state : CallState) (all : List (Item CallEnd)) (session : ℕ) (last : List Event) (c : Step) (cut : Option ℕ) : Type 0 where
  pub items : (cut_by cut (owing st state all)).items ≡ st.items ++ items_in c
  pub state_is : (cut_by cut (owing st state all)).state ≡ settled_state w state
  pub leaves : Leaves (Some session) (cut_by cut (owing st state all)).state last

-- the step behind the closing
abbrev pub IsClosedStep : Progress → Step → Step → Type 0
IsClosedStep OutOfMemory b c = c ≡ record b { end = Some want_of_memory }
IsClosedStep other b c = c ≡ b

-- whether memory was wanting, and how many items stand then
abbrev pub IsCut : Progress → Option ℕ → List (Item CallEnd) → List (Item CallEnd) → Type 0
IsCut OutOfMemory None before items = ⊥
IsCut OutOfMemory (Some made) before items = MayBeMade made before items
IsCut other cut before items = cut ≡ None

pub lacking_items : (b : Step) → b.end ≡ None → map Message b.answers ≡ items_in b
lacking_items b e = sym (append-nil (map Message b.answers)) ∙ ap (λ (x : List (Item CallEnd)). map Message b.answers ++ x) (sym (ap end_items e))

pub messages_end_none : (ms : List (List ℕ)) → has_end (map Message ms) ≡ false
messages_end_none [] = refl
messages_end_none (m ∷ ms) = messages_end_none ms

pub settled : (st : Standing) (w : Progress) (state : CallState) (all : List (Item CallEnd)) (session : ℕ) (last : List Event) (a b c : Step)
    → has_end st.items ≡ false → items_in a ≡ [] → AddsItems w all a b → IsClosedStep w b c → IsLast w session last → Leaves (Some session) state []
    → (w ≡ Spent → ⊥)
    → (cut : Option ℕ) × Settled st w state all session last c cut × IsCut w cut st.items (st.items ++ all)
settled st GoesOn state all session last a b c unended none told closed is stays alive =
    let got : items_in c ≡ all = ap items_in closed ∙ (told.1 ∙ ap (λ (l : List (Item CallEnd)). l ++ all) none) in
    let at : (owing st state all).state ≡ state = ap (λ (x : Bool). if x then Over else state) told.0 in (
      None,
      record {
        items = ap (λ (l : List (Item CallEnd)). st.items ++ l) (sym got);
        state_is = at;
        leaves = subst (λ (x : CallState). Leaves (Some session) x last) (sym at) (subst (λ (l : List Event). Leaves (Some session) state l) (sym is) stays);
      },
      refl,
    )
settled st Ended state all session last a b c unended none told closed is stays alive =
    let got : items_in c ≡ all = ap items_in closed ∙ (told.1 ∙ ap (λ (l : List (Item CallEnd)). l ++ all) none) in
    let at : (owing st state all).state ≡ Over = ap (λ (x : Bool). if x then Over else state) told.0 in (
      None,
      record {
        items = ap (λ (l : List (Item CallEnd)). st.items ++ l) (sym got);
        state_is = at;
        leaves = subst (λ (x : CallState). Leaves (Some session) x last) (sym at) is;
      },
      refl,
    )
settled st OutOfMemory state all session last a b c unended none told closed is stays alive =
    let made : List (Item CallEnd) = told.1.0 in
    let rest : List (Item CallEnd) = told.1.1 in
    let whole : st.items ++ all ≡ (st.items ++ made) ++ rest = ap (λ (l : List (Item CallEnd)). st.items ++ l) told.1.2 ∙ sym (append_assoc st.items made rest) in
    let kept : take (length (st.items ++ made)) (st.items ++ all) ≡ st.items ++ made = ap (λ (l : List (Item CallEnd)). take (length (st.items ++ made)) l) whole ∙ take_at (st.items ++ made) rest _ refl in
    let got : map Message b.answers ≡ made = lacking_items b told.0 ∙ (told.1.3 ∙ ap (λ (l : List (Item CallEnd)). l ++ made) none) in
    let ended : items_in c ≡ made ++ end_items (Some want_of_memory) = ap items_in closed ∙ ap (λ (l : List (Item CallEnd)). l ++ end_items (Some want_of_memory)) got in
    let plain : has_end made ≡ false = ap has_end (sym got) ∙ messages_end_none b.answers in (
      Some (length (st.items ++ made)),
      record {
        items = ap (λ (l : List (Item CallEnd)). l ++ end_items (Some want_of_memory)) kept ∙ (append_assoc st.items made (end_items (Some want_of_memory)) ∙ ap (λ (l : List (Item CallEnd)). st.items ++ l) (sym ended));
        state_is = refl;
        leaves = is;
      },
      (omega (arith, length-append st.items made), (let n = ap length whole in omega (arith, n, length-append (st.items ++ made) rest)), ap has_end kept ∙ ends_neither st.items made unended plain),
    )
settled st Spent state all session last a b c unended none told closed is stays alive = absurd (alive refl)

pub no_leaves : (w : Progress) (session : ℕ) (last : List Event) → IsLast w session last → without_leaves last ≡ []
no_leaves GoesOn session last is = ap without_leaves is
no_leaves Ended session last is = ap without_leaves is.1
no_leaves OutOfMemory session last is = ap without_leaves is.1
no_leaves Spent session last is = ap without_leaves is.1

made_by : (s : Setting) (w : Progress) (cut : Option ℕ) (st : Standing) (call : Call Method CallEnd) (cs : List Command) (d : List Event) (its : List (Item CallEnd)) → may_be_cut st.state call ≡ true
    → AnswerAll s w cs d → IsCut w cut st.items its → (w ≡ Spent → ⊥) → AreDoneOrCut s cut st call cs d its
made_by s GoesOn None st call cs d its may h is alive = h
made_by s GoesOn (Some made) st call cs d its may h is alive = absurd (cc is)
made_by s Ended None st call cs d its may h is alive = h
made_by s Ended (Some made) st call cs d its may h is alive = absurd (cc is)
made_by s OutOfMemory None st call cs d its may h is alive = absurd is
made_by s OutOfMemory (Some made) st call cs d its may h is alive = (may, h, is)
made_by s Spent cut st call cs d its may h is alive = absurd (alive refl)

abbrev pub at_session : ℕ → Bool → List (Item CallEnd) → Standing
at_session session fin its = record { state = Modifies session fin; items = its }

-- ---- a message

-- what a message makes of a call that stands so
abbrev pub RequestMakes : Setting → Standing → ℕ → List ℕ → ℕ → Progress → List Event → Step → Type 0
RequestMakes s st stream m session w did c =
    (cut : Option ℕ) × IsAction s st (Handles (Request stream m) did cut)
    × ((after s st (Handles (Request stream m) did cut)).items ≡ st.items ++ items_in c)
    × ((after s st (Handles (Request stream m) did cut)).state ≡ settled_state w (Modifies session false))

pub request_makes : (s : Setting) (its : List (Item CallEnd)) (stream : ℕ) (m : List ℕ) (session : ℕ) (w : Progress) (d last : List Event) (a b c : Step)
    → has_end its ≡ false → AnswerAll s w (asked_by_message s session m) d → list_any (λ e. is_leave e.command) d ≡ false → items_in a ≡ [] → AddsItems w (flat_map (items_for s) d ++ refused_by_message s m) a b
    → IsClosedStep w b c → IsLast w session last → (w ≡ Spent → ⊥) → RequestMakes s (at_session session false its) stream m session w (d ++ last) c
request_makes s its stream m session w d last a b c unended answers plain none told closed is alive =
    let st : Standing = at_session session false its in
    let all : List (Item CallEnd) = flat_map (items_for s) d ++ refused_by_message s m in
    let k = settled st w (Modifies session false) all session last a b c unended none told closed is refl alive in
    let cut : Option ℕ = k.0 in
    let same : without_leaves (d ++ last) ≡ d = without_tail d last plain ∙ (ap (λ (l : List Event). d ++ l) (no_leaves w session last is) ∙ append-nil d) in
    let whole : after s st (Handles (Request stream m) (d ++ last) cut) ≡ cut_by cut (owing st (Modifies session false) all) = ap (λ (l : List Event). cut_by cut (handled s st (Request stream m) l)) same in
    let settles : Settled st w (Modifies session false) all session last c cut = k.1 in (
      cut,
      record {
        last = last;
        did_is = ap (λ (l : List Event). l ++ last) (sym same);
        made = subst (λ (l : List Event). AreDoneOrCut s cut st (Request stream m) (asked_by_message s session m) l (handled s st (Request stream m) l).items) (sym same)
            (made_by s w cut st (Request stream m) (asked_by_message s session m) d (its ++ all) refl answers k.2 alive);
        leaves = subst (λ (x : Standing). Leaves (Some session) x.state last) (sym whole) settles.leaves;
      },
      ap (λ (x : Standing). x.items) whole ∙ settles.items,
      ap (λ (x : Standing). x.state) whole ∙ settles.state_is,
    )

-- ---- a Collect

abbrev pub CollectMakes : Setting → Standing → ℕ → ℕ → Bool → Progress → List Event → Step → Type 0
CollectMakes s st stream session fin w did c =
    (cut : Option ℕ) × IsAction s st (Collects stream did cut)
    × ((after s st (Collects stream did cut)).items ≡ st.items ++ items_in c)
    × ((after s st (Collects stream did cut)).state ≡ settled_state w (Modifies session fin))

short_by : (w : Progress) (cut : Option ℕ) (before items : List (Item CallEnd)) → IsCut w cut before items → IfSome cut (λ made. MayBeMade made before items)
short_by w None before items h = tt
short_by GoesOn (Some made) before items h = absurd (cc h)
short_by Ended (Some made) before items h = absurd (cc h)
short_by OutOfMemory (Some made) before items h = h
short_by Spent (Some made) before items h = absurd (cc h)

pub collect_makes : (s : Setting) (its : List (Item CallEnd)) (stream session : ℕ) (fin : Bool) (w : Progress) (said : Reply) (last : List Event) (a b c : Step) → has_end its ≡ false → items_in a ≡ []
    → AddsItems w (flat_map (items_for s) (collect_entry session said ∷ []) ++ good_end (Modifies session fin) (collect_entry session said ∷ [])) a b → IsClosedStep w b c → IsLast w session last → (w ≡ Spent → ⊥)
    → CollectMakes s (at_session session fin its) stream session fin w (collect_entry session said ∷ last) c
collect_makes s its stream session fin w said last a b c unended none told closed is alive =
    let st : Standing = at_session session fin its in
    let d : List Event = collect_entry session said ∷ [] in
    let all : List (Item CallEnd) = flat_map (items_for s) d ++ good_end (Modifies session fin) d in
    let k = settled st w (Modifies session fin) all session last a b c unended none told closed is refl alive in
    let cut : Option ℕ = k.0 in
    let same : without_leaves (d ++ last) ≡ d = without_tail d last refl ∙ (ap (λ (l : List Event). d ++ l) (no_leaves w session last is) ∙ append-nil d) in
    let whole : cut_by cut (collected s st (without_leaves (d ++ last))) ≡ cut_by cut (owing st (Modifies session fin) all) = ap (λ (l : List Event). cut_by cut (collected s st l)) same in
    let settles : Settled st w (Modifies session fin) all session last c cut = k.1 in (
      cut,
      record {
        session = session;
        is_finished = fin;
        state_is = refl;
        said = said;
        last = last;
        did_is = refl;
        works_is = same;
        made = subst (λ (l : List Event). IfSome cut (λ made. MayBeMade made its (collected s st l).items)) (sym same) (short_by w cut its _ k.2);
        leaves = subst (λ (x : Standing). Leaves (Some session) x.state last) (sym whole) settles.leaves;
      },
      ap (λ (x : Standing). x.items) whole ∙ settles.items,
      ap (λ (x : Standing). x.state) whole ∙ settles.state_is,
    )
