-- Calls that are ended for want of memory.
use Rattle.std.proofs.Common.{◌≡◌, ◌⊎◌, ℕ, ◌==◌, ◌≤◌, ◌+◌, Bool, true, false, take, length, List, [], ◌∷◌, ◌++◌, Option, Some, None, refl, sym, ap, ◌∙◌, subst, inl, inr, append-nil, eq-eqb, arith, if◌then◌else◌}
use Rattle.std.specs.Prelude.{map}
use Rattle.std.specs.List.{flat_map}
use Rattle.std.specs.Option.{option_map_or}
use Rattle.std.proofs.lemmas.Bool.{eqb-true}
use Rattle.std.proofs.lemmas.List.{length-take-le, map-append, take-take, take_at}
use Rattle.grpc_heads.specs.CallEnd.{CallEnd, Status}
use Rattle.h2_exchange.specs.StreamParts.{Item, Finish}
use Rattle.table_model.specs.Event.{Event}
use Rattle.call_answers.specs.declared.orders.Setting.{Setting}
use Rattle.call_orders.specs.Owed.{items_for, want_of_memory}
use Rattle.call_orders.specs.Calls.{CallState, Over, Standing, Action, Handles, Collects, Continues, collected, continued, cut_of, handled, stream_of, without_leaves, waiting_in, after, standing}
use Rattle.call_orders.specs.Actions.{AreActions, IsAction, MayBeMade}
use Rattle.call_orders.specs.Orders.{Cut, cuts}
use Rattle.call_orders.specs.Laws.{CutsAreFinal, count}
use Rattle.call_orders.proofs.Counts.{count_append, standing_here, standing_other}
use Rattle.call_orders.proofs.Doing.{in_part, none_done}
use Rattle.call_orders.proofs.Following.{at_split}
use Rattle.call_orders.proofs.Idle.{over_stays}
use Rattle.call_orders.proofs.Standing.{actions_parts}

-- ---- a call that is over

over_uncut : (s : Setting) (its : List (Item CallEnd)) (a : Action) → IsAction s (record { state = Over; items = its }) a → cut_of a ≡ None
over_uncut s its (Handles call did None) act = refl
over_uncut s its (Handles call did (Some made)) act = absurd (never act.made.0)
  where
    never : false ≡ true → ⊥
    never e = cc
over_uncut s its (Collects id did cut) act = absurd (cc act.state_is)
over_uncut s its (Continues id cut) act = absurd (cc act.state_is)

over_items : (s : Setting) (its : List (Item CallEnd)) (a : Action) → IsAction s (record { state = Over; items = its }) a → (after s (record { state = Over; items = its }) a).items ≡ its
over_items s its (Handles call did (Some made)) act = absurd (never act.made.0)
  where
    never : false ≡ true → ⊥
    never e = cc
over_items s its (Handles call did None) act =
    let st : Standing = record { state = Over; items = its } in
    let none : without_leaves did ≡ [] = none_done s [] (without_leaves did) refl (in_part s None st call [] (without_leaves did) (handled s st call (without_leaves did)).items act.made) in
    ap (λ (l : List Event). its ++ (flat_map (items_for s) l ++ [])) none ∙ append-nil its
over_items s its (Collects id did cut) act = absurd (cc act.state_is)
over_items s its (Continues id cut) act = absurd (cc act.state_is)

abbrev over_with : List (Item CallEnd) → Standing
over_with its = record { state = Over; items = its }

over_after : (s : Setting) (st : Standing) (a : Action) → st.state ≡ Over → IsAction s st a → after s st a ≡ st
over_after s st a over act =
    let is : st ≡ over_with st.items = ap (λ (x : CallState). (let y : Standing = record { state = x; items = st.items } in y)) over in
    let act_is : IsAction s (over_with st.items) a = subst (λ (x : Standing). IsAction s x a) is act in
    ap (λ (x : Standing). after s x a) is
    ∙ (ap (λ (x : CallState). (let y : Standing = record { state = x; items = (after s (over_with st.items) a).items } in y)) (over_stays s st.items a act_is)
    ∙ (ap over_with (over_items s st.items a act_is) ∙ sym is))

-- nothing changes of it any more
stays_over : (s : Setting) (later earlier : List Action) (id : ℕ) → AreActions s (later ++ earlier) → (standing s earlier id).state ≡ Over → standing s (later ++ earlier) id ≡ standing s earlier id
stays_over s [] earlier id h over = refl
stays_over s (a ∷ later) earlier id h over = by (stream_of a == id) refl (stays_over s later earlier id (actions_parts s a (later ++ earlier) h).1 over)
  where
    by : (b : Bool) → (stream_of a == id) ≡ b → standing s (later ++ earlier) id ≡ standing s earlier id → standing s (a ∷ later ++ earlier) id ≡ standing s earlier id
    by false e same = standing_other s a (later ++ earlier) id e ∙ same
    by true e same =
        let act = (actions_parts s a (later ++ earlier) h).0 in
        let at : stream_of a ≡ id = eqb-true (stream_of a) id e in
        let act_is : IsAction s (standing s (later ++ earlier) id) a = subst (λ (n : ℕ). IsAction s (standing s (later ++ earlier) n) a) at act in
        standing_here s a (later ++ earlier) id e ∙ (over_after s (standing s (later ++ earlier) id) a (ap (λ (x : Standing). x.state) same ∙ over) act_is ∙ same)

-- ---- how often

abbrev streams : List Action → List ℕ
streams actions = map (λ (c : Cut). c.stream) (cuts actions)

mapped : (g : ℕ → List Cut) (n : ℕ) → ((m : ℕ) → map (λ (c : Cut). c.stream) (g m) ≡ n ∷ []) → (o : Option ℕ) → map (λ (c : Cut). c.stream) (option_map_or g o []) ≡ option_map_or (λ (made : ℕ). n ∷ []) o []
mapped g n e None = refl
mapped g n e (Some made) = e made

streams_more : (a : Action) (earlier : List Action) → streams (a ∷ earlier) ≡ streams earlier ++ option_map_or (λ (made : ℕ). stream_of a ∷ []) (cut_of a) []
unfolding cuts
streams_more a earlier = map-append (λ (c : Cut). c.stream) (cuts earlier) _ ∙ ap (λ (l : List ℕ). map (λ (c : Cut). c.stream) (cuts earlier) ++ l) (mapped _ (stream_of a) (λ m. refl) (cut_of a))

abbrev Once : Setting → List Action → ℕ → Type 0
Once s actions id = (count id (streams actions) ≡ 0) ⊎ ((count id (streams actions) ≡ 1) × ((standing s actions id).state ≡ Over))

more_count : (id : ℕ) (a : Action) (earlier : List Action) (o : Option ℕ) → cut_of a ≡ o → count id (streams (a ∷ earlier)) ≡ count id (streams earlier) + count id (option_map_or (λ (made : ℕ). stream_of a ∷ []) o [])
more_count id a earlier o e =
    ap (count id) (streams_more a earlier) ∙ (count_append id (streams earlier) (option_map_or (λ (made : ℕ). stream_of a ∷ []) (cut_of a) [])
    ∙ ap (λ (x : Option ℕ). count id (streams earlier) + count id (option_map_or (λ (made : ℕ). stream_of a ∷ []) x [])) e)

cut_over : (s : Setting) (st : Standing) (a : Action) (made : ℕ) → cut_of a ≡ Some made → (after s st a).state ≡ Over
cut_over s st (Handles call did (Some n)) made e = refl
cut_over s st (Handles call did None) made e = absurd cc
cut_over s st (Collects id did (Some n)) made e = refl
cut_over s st (Collects id did None) made e = absurd cc
cut_over s st (Continues id (Some n)) made e = refl
cut_over s st (Continues id None) made e = absurd cc

none_elsewhere : (a : Action) (id : ℕ) (o : Option ℕ) → (stream_of a == id) ≡ false → count id (option_map_or (λ (made : ℕ). stream_of a ∷ []) o []) ≡ 0
none_elsewhere a id None e = refl
none_elsewhere a id (Some made) e = ap (λ (b : Bool). (if b then 1 else 0) + 0) e

one_here : (a : Action) (id made : ℕ) → (stream_of a == id) ≡ true → count id (option_map_or (λ (made : ℕ). stream_of a ∷ []) (Some made) []) ≡ 1
one_here a id made e = ap (λ (b : Bool). (if b then 1 else 0) + 0) e

once_step : (s : Setting) (a : Action) (earlier : List Action) (id : ℕ) (b : Bool) (o : Option ℕ) → (stream_of a == id) ≡ b → cut_of a ≡ o → IsAction s (standing s earlier (stream_of a)) a → Once s earlier id → Once s (a ∷ earlier) id
once_step s a earlier id false o e cut act (inl none) =
    let x = more_count id a earlier o cut in let y = none_elsewhere a id o e in inl (omega (arith, x, y, none))
once_step s a earlier id false o e cut act (inr one) =
    let x = more_count id a earlier o cut in let y = none_elsewhere a id o e in let z = one.0 in
    inr (omega (arith, x, y, z), ap (λ (st : Standing). st.state) (standing_other s a earlier id e) ∙ one.1)
once_step s a earlier id true None e cut act (inl none) = let x = more_count id a earlier None cut in inl (omega (arith, x, none))
once_step s a earlier id true (Some made) e cut act (inl none) =
    let x = more_count id a earlier (Some made) cut in let y = one_here a id made e in
    inr (omega (arith, x, y, none), ap (λ (st : Standing). st.state) (standing_here s a earlier id e) ∙ cut_over s (standing s earlier id) a made cut)
once_step s a earlier id true o e cut act (inr one) =
    let at : stream_of a ≡ id = eqb-true (stream_of a) id e in
    let st : Standing = standing s earlier id in
    let act_is : IsAction s st a = subst (λ (n : ℕ). IsAction s (standing s earlier n) a) at act in
    let over_act : IsAction s (over_with st.items) a = subst (λ (x : Standing). IsAction s x a) (ap (λ (x : CallState). (let y : Standing = record { state = x; items = st.items } in y)) one.1) act_is in
    let x = more_count id a earlier None (over_uncut s st.items a over_act) in
    let z = one.0 in
    inr (omega (arith, x, z), ap (λ (y : Standing). y.state) (standing_here s a earlier id e) ∙ (ap (λ (y : Standing). y.state) (over_after s st a one.1 act_is) ∙ one.1))

once : (s : Setting) (actions : List Action) → AreActions s actions → (id : ℕ) → Once s actions id
unfolding cuts
once s [] h id = inl refl
once s (a ∷ earlier) h id =
    let parts = actions_parts s a earlier h in
    once_step s a earlier id (stream_of a == id) (cut_of a) refl refl parts.0 (once s earlier parts.1 id)

at_most : (s : Setting) (actions : List Action) (id : ℕ) → Once s actions id → count id (streams actions) ≤ 1
at_most s actions id (inl none) = omega (arith, none)
at_most s actions id (inr one) = let x = one.0 in omega (arith, x)

-- ---- what is owed then

abbrev uncut : Setting → Standing → Action → List (Item CallEnd)
uncut s st (Handles call did cut) = (handled s st call (without_leaves did)).items
uncut s st (Collects id did cut) = (collected s st (without_leaves did)).items
uncut s st (Continues id cut) = (continued st).items

pub record CutAt (s : Setting) (st : Standing) (a : Action) (made : ℕ) : Type 0 where
  pub more : List (Item CallEnd)
  pub items_are : uncut s st a ≡ st.items ++ more
  pub made_is : MayBeMade made st.items (uncut s st a)
  pub after_is : after s st a ≡ over_with (take made (uncut s st a) ++ Finish (Status want_of_memory) ∷ [])

some_same : (a b : ℕ) → Some a ≡ Some b → a ≡ b
some_same a b e = cc

cut_at : (s : Setting) (st : Standing) (a : Action) (made : ℕ) → IsAction s st a → cut_of a ≡ Some made → CutAt s st a made
cut_at s st (Handles call did None) made act e = absurd cc
cut_at s st (Collects id did None) made act e = absurd cc
cut_at s st (Continues id None) made act e = absurd cc
cut_at s st (Handles call did (Some n)) made act e =
    subst (λ (k : ℕ). CutAt s st (Handles call did (Some n)) k) (some_same n made e) (record { more = _; items_are = refl; made_is = act.made.2; after_is = refl })
cut_at s st (Collects id did (Some n)) made act e =
    subst (λ (k : ℕ). CutAt s st (Collects id did (Some n)) k) (some_same n made e) (record { more = _; items_are = refl; made_is = act.made; after_is = refl })
cut_at s st (Continues id (Some n)) made act e =
    subst (λ (k : ℕ). CutAt s st (Continues id (Some n)) k) (some_same n made e) (record { more = _; items_are = refl; made_is = act.made; after_is = refl })

pub cuts_are_final : (s : Setting) → CutsAreFinal s
cuts_are_final s calls own end actions o u = (
  λ id. at_most s actions id (once s actions o.each id),
  λ later earlier a made e cut. (
      let id = stream_of a in
      let st : Standing = standing s earlier id in
      let k = cut_at s st a made (at_split s calls own end actions o u later a earlier e).act cut in
      let all = uncut s st a in
      let here : standing s (a ∷ earlier) id ≡ over_with (take made all ++ Finish (Status want_of_memory) ∷ []) = standing_here s a earlier id (eq-eqb id id refl) ∙ k.after_is in
      let final : standing s actions id ≡ over_with (take made all ++ Finish (Status want_of_memory) ∷ []) =
      ap (λ (l : List Action). standing s l id) e ∙ (stays_over s later (a ∷ earlier) id (subst (AreActions s) e o.each) (ap (λ (x : Standing). x.state) here) ∙ here) in (
        take made all,
        ap (λ (x : Standing). x.items ++ waiting_in x.state) final ∙ append-nil (take made all ++ Finish (Status want_of_memory) ∷ []),
        length-take-le made all k.made_is.1,
        k.made_is.2,
        take-take (length st.items) made all k.made_is.0 ∙ (ap (take (length st.items)) k.items_are ∙ take_at st.items k.more (length st.items) refl),
      )),
)
