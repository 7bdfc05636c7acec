-- The next response of a Get.
use Rattle.std.proofs.Common.{◌≡◌, ℕ, suc, ◌+◌, ◌-◌, ◌==◌, ◌<◌, ◌≤◌, Bool, true, false, not, if◌then◌else◌, is_some, map, drop, length, List, [], ◌∷◌, ◌++◌, Option, Some, None, refl, sym, ap, ◌∙◌, subst, append_assoc, append-nil, arith, inr}
use Rattle.std.specs.Prelude.{All}
use Rattle.std.proofs.lemmas.List.{length-drop, map-append}
use Rattle.std.proofs.lemmas.List.Elements.{All-drop}
use Rattle.std.proofs.lemmas.Bool.Decides.{nat_tests}
use Rattle.aft_entries.specs.declared.operation.Row.{Row}
use Rattle.gribi_messages.specs.Rows.{RowHasKnownInstances}
use Rattle.grpc_heads.specs.GrpcStatus.{GrpcStatus}
use Rattle.grpc_heads.specs.CallEnd.{CallEnd}
use Rattle.h2_exchange.specs.StreamParts.{Item, Message}
use Rattle.call_answers.specs.declared.orders.Setting.{Setting}
use Rattle.call_requests.specs.Responses.{get_responses}
use Rattle.call_orders.specs.Owed.{end_items, has_end, items_by, ok, selected_items, want_of_memory}
use Rattle.call_orders.specs.Calls.{Continues, Over, Responds, Standing, next_items, waiting_behind}
use Rattle.session_engine.specs.declared.known_rows.Given.TheVariants as how
use Rattle.session_engine.specs.declared.open_calls.OpenCall.{OpenCall}
use Rattle.session_engine.specs.declared.open_calls.OpenCall.TheVariants as opened
use Rattle.session_engine.specs.declared.step.Step.{Step}
use Rattle.session_engine.specs.Queries.{OpenCallsView, call_on, is_responding, remaining}
use Rattle.session_engine.specs.Responding.{GivesNext, GivesOf}
use Rattle.session_engine.specs.Stands.{AreSameElsewhere, ContinuesCall, Stands, Takes, TakesFrom, items_in}
use Rattle.session_engine.proofs.Opening.{at_state, kept_items, longer, takes_at, unended_at}
use Rattle.session_engine.proofs.SingleCalls.{ended_step}
use Rattle.session_engine.proofs.Taking.{lacking_items}

-- ---- rows that are known

pub known_for : (count other : ℕ) (rows : List Row) → other ≡ count → All (RowHasKnownInstances count) rows → All (RowHasKnownInstances other) rows
known_for count other rows e h = subst (λ (n : ℕ). All (RowHasKnownInstances n) rows) (sym e) h

pub known_rest : (count : ℕ) (rows left : List Row) → left ≡ drop 64 rows → All (RowHasKnownInstances count) rows → All (RowHasKnownInstances count) left
known_rest count rows left e h = subst (λ (l : List Row). All (RowHasKnownInstances count) l) (sym e) (All-drop (RowHasKnownInstances count) 64 rows h)

-- ---- what is given

fewer_left : (rows left : List Row) → left ≡ drop 64 rows → 0 < length rows → length left < length rows
fewer_left rows left e some = subst (λ (l : List Row). length l < length rows) (sym e) (omega (arith, length-drop 64 rows, some))

abbrev texts : Setting → List Row → List (List ℕ)
texts s rows = get_responses s.numbering s.instances rows

none_left : (s : Setting) → texts s [] ≡ []
unfolding get_responses
none_left s = refl

is_empty : (rows : List Row) → (length rows == 0) ≡ true → rows ≡ []
is_empty [] e = refl
is_empty (row ∷ rows) e = absurd (grind (arith, nat_tests))

some_rows : (rows : List Row) → (length rows == 0) ≡ false → 0 < length rows
some_rows [] e = absurd (cc e)
some_rows (row ∷ rows) e = omega arith

-- rows have a first response
some_left : (s : Setting) (rows : List Row) → 0 < length rows → (bytes : List ℕ) × (more : List (List ℕ)) × (texts s rows ≡ bytes ∷ more)
unfolding get_responses
some_left s [] some = absurd (omega (arith, some))
some_left s (row ∷ rows) some = (_, _, refl)

next_first : (b c : List ℕ) (ms : List (List ℕ)) → next_items (items_by (b ∷ c ∷ ms) (Some ok)) ≡ Message b ∷ []
next_first b c [] = refl
next_first b c (m ∷ ms) = refl

waits_behind : (b c : List ℕ) (ms : List (List ℕ)) → waiting_behind (items_by (b ∷ c ∷ ms) (Some ok)) ≡ items_by (c ∷ ms) (Some ok)
waits_behind b c [] = refl
waits_behind b c (m ∷ ms) = refl

-- a step got these messages and this end
items_more : (a b : Step) (more : List (List ℕ)) (end : Option GrpcStatus) → a.end ≡ None → b.answers ≡ a.answers ++ more → b.end ≡ end → items_in b ≡ items_in a ++ items_by more end
items_more a b more end none same is =
    ap (λ (l : List (List ℕ)). map Message l ++ end_items b.end) same
    ∙ ap (λ (e : Option GrpcStatus). map Message (a.answers ++ more) ++ end_items e) is
    ∙ ap (λ (l : List (Item CallEnd)). l ++ end_items end) (map-append Message a.answers more)
    ∙ append_assoc (map Message a.answers) (map Message more) (end_items end)
    ∙ ap (λ (l : List (Item CallEnd)). l ++ items_by more end) (lacking_items a none)

-- the next items, by the responses
by_texts : (s : Setting) (rows : List Row) (ms : List (List ℕ)) → texts s rows ≡ ms → selected_items s rows ≡ items_by ms (Some ok)
by_texts s rows ms e = ap (λ (l : List (List ℕ)). items_by l (Some ok)) e

pub given_none : (s : Setting) (rows : List Row) (is_over : Bool) (a b : Step) → is_over ≡ (length rows == 0) → is_over ≡ true → a.end ≡ None → b.answers ≡ a.answers → b.end ≡ Some ok → GivesNext s how.Last rows rows a b
given_none s rows is_over a b test over none same is =
    let all : selected_items s rows ≡ items_by [] (Some ok) = by_texts s rows [] (ap (texts s) (is_empty rows (sym test ∙ over)) ∙ none_left s) in (
      items_more a b [] (Some ok) none (same ∙ sym (append-nil a.answers)) is ∙ ap (λ (l : List (Item CallEnd)). items_in a ++ next_items l) (sym all),
      ap (λ (l : List (Item CallEnd)). has_end (next_items l)) all,
      ap (λ (e : Option GrpcStatus). is_some e) is,
    )

pub given_last : (s : Setting) (rows left : List Row) (bytes : List ℕ) (is_over : Bool) (a b : Step) → texts s rows ≡ bytes ∷ texts s left → is_over ≡ (length left == 0) → is_over ≡ true → a.end ≡ None
    → b.answers ≡ a.answers ++ bytes ∷ [] → b.end ≡ Some ok → GivesNext s how.Last rows left a b
given_last s rows left bytes is_over a b said test over none same is =
    let all : selected_items s rows ≡ items_by (bytes ∷ []) (Some ok) =
    by_texts s rows (bytes ∷ []) (said ∙ ap (λ (l : List (List ℕ)). bytes ∷ l) (ap (texts s) (is_empty left (sym test ∙ over)) ∙ none_left s)) in (
      items_more a b (bytes ∷ []) (Some ok) none same is ∙ ap (λ (l : List (Item CallEnd)). items_in a ++ next_items l) (sym all),
      ap (λ (l : List (Item CallEnd)). has_end (next_items l)) all,
      ap (λ (e : Option GrpcStatus). is_some e) is,
    )

pub given_part : (s : Setting) (rows left : List Row) (bytes : List ℕ) (over is_over : Bool) (a b : Step) → over ≡ (length rows == 0) → over ≡ false → left ≡ drop 64 rows
    → texts s rows ≡ bytes ∷ texts s left → is_over ≡ (length left == 0) → is_over ≡ false → a.end ≡ None → b.answers ≡ a.answers ++ bytes ∷ [] → b.end ≡ None → GivesNext s how.Part rows left a b
given_part s rows left bytes over is_over a b was begun rest said test more none same is =
    let k = some_left s left (some_rows left (sym test ∙ more)) in
    let behind : selected_items s left ≡ items_by (k.0 ∷ k.1) (Some ok) = by_texts s left (k.0 ∷ k.1) k.2 in
    let all : selected_items s rows ≡ items_by (bytes ∷ k.0 ∷ k.1) (Some ok) = by_texts s rows (bytes ∷ k.0 ∷ k.1) (said ∙ ap (λ (l : List (List ℕ)). bytes ∷ l) k.2) in
    let next : next_items (selected_items s rows) ≡ Message bytes ∷ [] = ap next_items all ∙ next_first bytes k.0 k.1 in (
      fewer_left rows left rest (some_rows rows (sym was ∙ begun)),
      items_more a b (bytes ∷ []) None none same is ∙ ap (λ (l : List (Item CallEnd)). items_in a ++ l) (sym next),
      ap has_end next,
      ap waiting_behind all ∙ (waits_behind bytes k.0 k.1 ∙ sym behind),
      is,
    )

-- ---- the action

module _ (s : Setting) (id : ℕ) (its : List (Item CallEnd)) (rows : List Row) where
  abbrev responding : Standing
  responding = at_state (Responds (selected_items s rows)) its

  state_by : (state : Bool) → has_end (next_items (selected_items s rows)) ≡ state → (if has_end (next_items (selected_items s rows)) then Over else Responds (waiting_behind (selected_items s rows)))
      ≡ (if state then Over else Responds (waiting_behind (selected_items s rows)))
  state_by state e = ap (λ (x : Bool). if x then Over else Responds (waiting_behind (selected_items s rows))) e

  got : (a b : Step) (items : List (Item CallEnd)) → items_in a ≡ [] → items_in b ≡ items_in a ++ items → items_in b ≡ items
  got a b items none e = e ∙ ap (λ (l : List (Item CallEnd)). l ++ items) none

  part_taken : (left : List Row) (a b : Step) → items_in a ≡ [] → GivesNext s how.Part rows left a b → Takes s responding (Some (opened.Responds left)) (Continues id) (items_in b)
  part_taken left a b none h = record {
    cut = None;
    right = record { waiting = selected_items s rows; state_is = refl; made = tt };
    stands = state_by false h.2 ∙ ap Responds h.3;
    items_are = ap (λ (l : List (Item CallEnd)). its ++ l) (sym (got a b (next_items (selected_items s rows)) none h.1));
  }

  last_taken : (left : List Row) (a b : Step) → items_in a ≡ [] → GivesNext s how.Last rows left a b → Takes s responding None (Continues id) (items_in b)
  last_taken left a b none h = record {
    cut = None;
    right = record { waiting = selected_items s rows; state_is = refl; made = tt };
    stands = inr (state_by true h.1);
    items_are = ap (λ (l : List (Item CallEnd)). its ++ l) (sym (got a b (next_items (selected_items s rows)) none h.0));
  }

  none_taken : has_end its ≡ false → Takes s responding None (Continues id) (end_items (Some want_of_memory))
  none_taken unended = record {
    cut = Some (length its);
    right = record { waiting = selected_items s rows; state_is = refl; made = (omega arith, longer its _, ap has_end (kept_items its _) ∙ unended) };
    stands = inr refl;
    items_are = ap (λ (l : List (Item CallEnd)). l ++ end_items (Some want_of_memory)) (kept_items its _);
  }

-- ---- of the call on a stream

takes_part : (s : Setting) (id : ℕ) (t now : Option OpenCall) (a b : Step) → items_in a ≡ [] → GivesOf s how.Part t now a b → TakesFrom s (Stands s t) now (Continues id) (λ _. items_in b)
takes_part s id (Some (opened.Responds rows)) now a b none h = λ st from unended.
    takes_at s st (Responds (selected_items s rows)) now (Continues id) (items_in b) from
    (subst (λ (x : Option OpenCall). Takes s (at_state (Responds (selected_items s rows)) st.items) x (Continues id) (items_in b)) (sym h.1) (part_taken s id st.items rows h.0 a b none h.2))
takes_part s id other now a b none h = absurd h

takes_last : (s : Setting) (id : ℕ) (t now over : Option OpenCall) (a b : Step) → items_in a ≡ [] → over ≡ None → GivesOf s how.Last t now a b → TakesFrom s (Stands s t) over (Continues id) (λ _. items_in b)
takes_last s id (Some (opened.Responds rows)) now over a b none off h = λ st from unended.
    takes_at s st (Responds (selected_items s rows)) over (Continues id) (items_in b) from
    (subst (λ (x : Option OpenCall). Takes s (at_state (Responds (selected_items s rows)) st.items) x (Continues id) (items_in b)) (sym off) (last_taken s id st.items rows h.0 a b none h.2))
takes_last s id other now over a b none off h = absurd h

takes_none : (s : Setting) (id : ℕ) (t now over : Option OpenCall) (a b : Step) → items_in a ≡ [] → over ≡ None → GivesOf s how.OutOfMemory t now a b
    → TakesFrom s (Stands s t) over (Continues id) (λ _. items_in (record b { end = Some want_of_memory }))
takes_none s id (Some (opened.Responds rows)) now over a b none off h = λ st from unended.
    takes_at s st (Responds (selected_items s rows)) over (Continues id) (items_in (record b { end = Some want_of_memory })) from
    (subst (λ (x : Option OpenCall). Takes s (at_state (Responds (selected_items s rows)) st.items) x (Continues id) (items_in (record b { end = Some want_of_memory }))) (sym off)
    (subst (λ (l : List (Item CallEnd)). Takes s (at_state (Responds (selected_items s rows)) st.items) None (Continues id) l) (sym (ended_step b (lacking_items b h.2.0 ∙ (h.2.1 ∙ none))))
    (none_taken s id st.items rows (unended_at st (Responds (selected_items s rows)) from (λ e. cc e) unended))))
takes_none s id other now over a b none off h = absurd h

-- ---- of the calls of an engine

module _ (s : Setting) (id : ℕ) (inside old mid : OpenCallsView) (a b : Step) (view : inside ≡ old) (none : items_in a ≡ []) (quiet : a.halted ≡ false) (off : AreSameElsewhere id inside mid) (same : b.halted ≡ a.halted) where
  pub continues_part : GivesOf s how.Part (call_on inside id) (call_on mid id) a b → ContinuesCall s old mid id b
  continues_part h = subst (λ (l : OpenCallsView). ContinuesCall s l mid id b) view
      (record { takes = takes_part s id (call_on inside id) (call_on mid id) a b none h; others = off; quiet = same ∙ quiet })

  pub continues_last : (new : OpenCallsView) → call_on new id ≡ None → AreSameElsewhere id mid new → GivesOf s how.Last (call_on inside id) (call_on mid id) a b → ContinuesCall s old new id b
  continues_last new over others h = subst (λ (l : OpenCallsView). ContinuesCall s l new id b) view
      (record {
        takes = takes_last s id (call_on inside id) (call_on mid id) (call_on new id) a b none over h;
        others = λ other apart. others other apart ∙ off other apart;
        quiet = same ∙ quiet;
      })

  pub continues_none : (new : OpenCallsView) → call_on new id ≡ None → AreSameElsewhere id mid new → GivesOf s how.OutOfMemory (call_on inside id) (call_on mid id) a b
      → ContinuesCall s old new id (record b { end = Some want_of_memory })
  continues_none new over others h = subst (λ (l : OpenCallsView). ContinuesCall s l new id (record b { end = Some want_of_memory })) view
      (record {
        takes = takes_none s id (call_on inside id) (call_on mid id) (call_on new id) a b none over h;
        others = λ other apart. others other apart ∙ off other apart;
        quiet = same ∙ quiet;
      })

-- ---- how much is left

pub falls_part : (s : Setting) (t now : Option OpenCall) (a b : Step) → GivesOf s how.Part t now a b → remaining now < remaining t
falls_part s (Some (opened.Responds rows)) now a b h = subst (λ (x : Option OpenCall). remaining x < suc (length rows)) (sym h.1) (omega (arith, h.2.0))
falls_part s other now a b h = absurd h

pub falls_over : (t now : Option OpenCall) → is_responding t ≡ true → now ≡ None → remaining now < remaining t
falls_over (Some (opened.Responds rows)) now e over = subst (λ (x : Option OpenCall). remaining x < suc (length rows)) (sym over) (omega arith)
falls_over t now e over = absurd (cc e)

pub goes_part : (s : Setting) (t now : Option OpenCall) (a b : Step) → GivesOf s how.Part t now a b → is_some b.end ≡ not (is_responding now)
goes_part s (Some (opened.Responds rows)) now a b h = ap (λ (e : Option GrpcStatus). is_some e) h.2.4 ∙ sym (ap (λ (x : Option OpenCall). not (is_responding x)) h.1)
goes_part s other now a b h = absurd h

pub ends_last : (s : Setting) (t now over : Option OpenCall) (a b : Step) → over ≡ None → GivesOf s how.Last t now a b → is_some b.end ≡ not (is_responding over)
ends_last s (Some (opened.Responds rows)) now over a b off h = h.2.2 ∙ sym (ap (λ (x : Option OpenCall). not (is_responding x)) off)
ends_last s other now over a b off h = absurd h
