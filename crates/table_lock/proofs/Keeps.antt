-- Each step keeps the rule.
use Rattle.std.proofs.Common.{◌≡◌, ◌≢◌, ℕ, ◌+◌, ◌-◌, ◌%◌, ◌^◌, ◌<◌, ◌≤◌, eqb, List, [], ◌∷◌, ◌++◌, length, get_or, set, sym, refl, ap, ◌∙◌, subst, arith, Option, Some, None, length-set, length-append, get_or-set_other, get_or-set_same}
use Rattle.std.proofs.Math.Nat.{mod-eq_of_lt}
use mathlib.Core.Logic.{dite}
use mathlib.Core.Option.{some, none, some-injective, some-ne-none}
use mathlib.Core.Option as maybe
use mathlib.Core.List.{IsPrefix}
use native.Mathlib.Decide.{ℕ_discrete}
use lib.ListN.{get_elem?}
use lib.Seq.{set-get_or}
use prog.Atomic.{either}
use Rattle.atomic_table.specs.Table.{State, Me, step, Act, keeps, takes, gives, stepped, Allows, Splits, Joins, opening}
use Rattle.atomic_table.proofs.Lists.{set_here, set_else, set_again, at_longer, at_last, exchanged}
use Rattle.table_lock.specs.declared.machine.Entry.{Entry}
use Rattle.table_lock.specs.declared.view.Kind.TheVariants.{Spent, Note, Pass}
use Rattle.table_lock.specs.declared.view.Phase.{Phase}
use Rattle.table_lock.specs.declared.view.Phase.TheVariants.{Idle, Waits, Acts}
use Rattle.table_lock.specs.declared.view.Item.{Item}
use Rattle.table_lock.specs.declared.view.View.{View}
use Rattle.table_lock.specs.declared.view.LastCall.{LastCall}
use Rattle.table_lock.specs.declared.view.Slot.{Slot}
use Rattle.table_lock.specs.Lock.{entry, longer, name_by, held_by, ticket_in, weight, name_of, held_of, outs, NoneActs, InPhase, SeatOk, PassOk, EndedOk, LockInvariant, first, spent, forked, new_pass, note_of, learned, merged, handed_on, glanced, drew, handed, looked, settled}
use Rattle.table_lock.proofs.Lists.{at_below, one_value, each, each_more, prefix_refl, prefix_more, prefix_none, prefix_trans, prefix_whole, prefix_shorter, calls_none, calls_between, add_call, add_own, longer_cases, prefix_between, whole_set, whole_more, whole_join, distinct_set, distinct_more, distinct_same, distinct_none, has_same, has_else, has_more, has_last, apart_more, outs_set, outs_same, outs_more, weight_one}

module _ {M C R G : Type 0} (setup : M → G) (stands : M → List (Entry C R) → Type 0) (lawful : G → List (Entry C R) → Type 0) (key : G) where
  abbrev V : Type 0
  V = View C R G

  abbrev S : Type 0
  S = Option (Slot M C R)

  abbrev St : Type 0
  St = State S V

  abbrev Rule : St → Type 0
  Rule = LockInvariant setup stands lawful key

  abbrev Sees : List (Entry C R) → V → Type 0
  Sees = SeatOk setup stands lawful key

  abbrev Runs : List (Entry C R) → ℕ → ℕ → ℕ → ℕ → List (Item C R) → V → Type 0
  Runs = PassOk setup stands lawful key

  -- a seat that is not spent
  pub seat_of : (s : St) (r : Rule s) (id : ℕ) (v : V) → get_elem? s.views id ≡ some v → v.kind ≡ Pass → Sees r.log v
  seat_of s r id v at pass = r.seats id v at (λ e. cc (pass, e))

  -- another's part of the numbers
  outs_moved : (s : St) (r : Rule s) (o j : ℕ) (u : V) → outs s.views ≡ o → get_elem? s.views j ≡ some u → u.kind ≡ Pass → Runs r.log (get_or s.words 0 0) (length r.log) r.made o r.ended u
  outs_moved s r o j u same at pass = subst (λ (x : ℕ). Runs r.log (get_or s.words 0 0) (length r.log) r.made x r.ended u) same (r.passes j u at pass)

  quiet_acts : (vs : List V) (id : ℕ) (v w : V) → get_elem? vs id ≡ some v → ((t : ℕ) → v.kind ≡ Pass → v.phase ≡ Acts t → (w.kind ≡ Pass) × (w.phase ≡ Acts t)) → NoneActs (set vs id w) → NoneActs vs
  quiet_acts vs id v w at acts idle j t u there pass is = dite (ℕ_discrete j id)
      (λ e. let same = one_value vs id u v (subst (λ (j : ℕ). get_elem? vs j ≡ some u) e there) at in let did = acts t (ap (λ (x : V). x.kind) (sym same) ∙ pass) (ap (λ (x : V). x.phase) (sym same) ∙ is) in
      idle id t w (set_here vs id w (at_below vs id v at)) did.0 did.1)
      (λ ne. idle j t u (set_else vs id j w ne ∙ there) pass is)

  -- a seat that changes nothing but what it alone knows
  quiet : (s : St) (r : Rule s) (id : ℕ) (v w : V) → get_elem? s.views id ≡ some v → name_of w ≡ name_of v → held_of w ≡ held_of v → (w.kind ≢ Spent → Sees r.log w)
      → (w.kind ≡ Pass → Runs r.log (get_or s.words 0 0) (length r.log) r.made (outs s.views) r.ended w)
      → ((t : ℕ) → v.kind ≡ Pass → v.phase ≡ Acts t → (w.kind ≡ Pass) × (w.phase ≡ Acts t)) → (v.kind ≡ Pass → v.seen ≡ r.log → (w.kind ≡ Pass) × (w.seen ≡ r.log)) → Rule record { words = s.words; homes = s.homes; views = set s.views id w }
  quiet s r id v w at name held sees runs acts all =
      let same : outs s.views ≡ outs (set s.views id w) = sym (outs_same s.views id v w at name) in record {
        log = r.log;
        made = r.made;
        ended = r.ended;
        two = r.two;
        one = r.one;
        served = r.served;
        order = r.order;
        bound = r.bound;
        legal = r.legal;
        seats = each (λ (j : ℕ) (u : V). u.kind ≢ Spent → Sees r.log u) s.views id w sees (λ j u _ there. r.seats j u there);
        passes = each (λ (j : ℕ) (u : V). u.kind ≡ Pass → Runs r.log (get_or s.words 0 0) (length r.log) r.made (outs (set s.views id w)) r.ended u) s.views id w
            (λ pass. subst (λ (x : ℕ). Runs r.log (get_or s.words 0 0) (length r.log) r.made x r.ended w) same (runs pass)) (λ j u _ there pass. outs_moved s r (outs (set s.views id w)) j u same there pass);
        holders = λ t low high. has_same held_of s.views id v w at held t (r.holders t low high);
        queued = distinct_same held_of s.views id v w at held r.queued;
        root = has_same name_of s.views id v w at name 0 r.root;
        apart = distinct_same name_of s.views id v w at name r.apart;
        covered = λ n below gone. has_same name_of s.views id v w at name n (r.covered n below gone);
        ends = r.ends;
        ended_apart = r.ended_apart;
        count = (let c = r.count in omega arith);
        unmade = r.unmade;
        whole = whole_set s.views id v w r.log at r.whole all;
        home = λ idle. r.home (quiet_acts s.views id v w at acts idle);
      }

  -- a step that leaves the word i as it is
  unread : (s : St) (i : ℕ) (homes' : List (maybe.Option S)) (views' : List V) → Rule record { words = s.words; homes = homes'; views = views' } → Rule record { words = set s.words i (get_or s.words i 0); homes = homes'; views = views' }
  unread s i homes' views' r = subst (λ (ws : List ℕ). Rule record { words = ws; homes = homes'; views = views' }) (sym (set-get_or s.words i 0)) r

  glance_keeps : (s : St) (r : Rule s) (id n : ℕ) (v : V) → get_elem? s.views id ≡ some v → v.kind ≡ Pass → Rule record { words = s.words; homes = s.homes; views = set s.views id (record v { ticket = n }) }
  glance_keeps s r id n v at pass = let k = seat_of s r id v at pass in let p = r.passes id v at pass in
      quiet s r id v (record v { ticket = n }) at refl refl (λ _. record { seen = k.seen; legal = k.legal; setup_is = k.setup_is; left = k.left; right = k.right; left_legal = k.left_legal; right_legal = k.right_legal; note = k.note })
      (λ _. record { below = p.below; own = p.own; known = p.known; root = p.root; running = p.running; phase_is = p.phase_is }) (λ t kind is. (kind, is)) (λ kind is. (kind, is))

  pub glances : (slots id : ℕ) (me : Me S V) → me.0.kind ≡ Pass → Allows Rule slots id me 0 (λ n. n) (glanced (step slots 0 0 0 none) me)
  glances slots id me pass s r deep at low =
      (record me.0 { ticket = get_or s.words 0 0 }, keeps, tt, unread s 0 s.homes (set s.views id (record me.0 { ticket = get_or s.words 0 0 })) (glance_keeps s r id (get_or s.words 0 0) me.0 at pass), refl)

  pub settles : (slots id : ℕ) (me : Me S V) → me.0.kind ≢ Spent → Allows Rule slots id me 0 (λ n. n) (settled lawful (step slots 0 0 0 none) me)
  settles slots id me live s r deep at low = let k = r.seats id me.0 at live in (
    me.0,
    keeps,
    tt,
    unread s 0 s.homes (set s.views id me.0) (subst (λ (vs : List V). Rule record { words = s.words; homes = s.homes; views = vs }) (sym (set_again s.views id me.0 at)) r),
    (
      refl,
      record {
        left = k.left;
        right = k.right;
        legal = λ other is. subst (λ (x : G). lawful x me.0.seen) (cc (k.setup_is, is)) k.legal;
        own = λ pass. (r.passes id me.0 at pass).known;
      },
    ),
  )

  -- the rule after the ticket word became n
  abbrev Drawn : St → ℕ → V → ℕ → Type 0
  Drawn s id w n = Rule record { words = set s.words 0 n; homes = s.homes; views = set s.views id w }

  held_is : (v : V) (t : ℕ) → v.kind ≡ Pass → ticket_in v.phase ≡ some t → held_of v ≡ some t
  held_is v t pass is = ap (λ k. held_by k v.phase) pass ∙ is

  -- a pass between its calls holds none
  held_rests : (v : V) → v.kind ≡ Pass → v.phase ≡ Idle → held_of v ≡ none
  held_rests v pass rests i = held_by (pass i) (rests i)

  pub name_is : (v : V) → v.kind ≡ Pass → name_of v ≡ some v.number
  name_is v pass = ap (λ k. name_by k v.number) pass

  -- what holds a ticket is a pass
  kind_by : (k : _) (n t : ℕ) (p : Phase) → held_by k p ≡ some t → (k ≡ Pass) × (ticket_in p ≡ some t)
  kind_by Pass n t p e = (refl, e)
  kind_by Note n t p e = absurd (some-ne-none t (sym e))
  kind_by Spent n t p e = absurd (some-ne-none t (sym e))

  name_pass_by : (k : _) (n m : ℕ) → name_by k n ≡ some m → (k ≡ Pass) × (n ≡ m)
  name_pass_by Pass n m e = (refl, some-injective n m e)
  name_pass_by Note n m e = absurd (some-ne-none m (sym e))
  name_pass_by Spent n m e = absurd (some-ne-none m (sym e))

  pub name_pass : (v : V) (m : ℕ) → name_of v ≡ some m → (v.kind ≡ Pass) × (v.number ≡ m)
  name_pass v m e = name_pass_by v.kind v.number m e

  held_pass : (v : V) (t : ℕ) → held_of v ≡ some t → (v.kind ≡ Pass) × (ticket_in v.phase ≡ some t)
  held_pass v t e = kind_by v.kind v.number t v.phase e

  -- a ticket that is held lies between the words
  between_by : (tickets serving seen log t : ℕ) (p : Phase) → InPhase tickets serving seen log p → ticket_in p ≡ some t → (serving ≤ t) × (t < tickets)
  between_by tickets serving seen log t Idle h e = absurd (some-ne-none t (sym e))
  between_by tickets serving seen log t (Waits k) h e = let same = some-injective k t e in (omega arith, omega arith)
  between_by tickets serving seen log t (Acts k) h e = let same = some-injective k t e in (omega arith, omega arith)

  between : (s : St) (r : Rule s) (j t : ℕ) (v : V) → get_elem? s.views j ≡ some v → held_of v ≡ some t → (length r.log ≤ t) × (t < get_or s.words 0 0)
  between s r j t v at held = let p = held_pass v t held in between_by (get_or s.words 0 0) (length r.log) (length v.seen) (length r.log) t v.phase (r.passes j v at p.0).phase_is p.1

  later_by : (tickets tickets' serving seen log : ℕ) (p : Phase) → tickets ≤ tickets' → InPhase tickets serving seen log p → InPhase tickets' serving seen log p
  later_by tickets tickets' serving seen log Idle le h = tt
  later_by tickets tickets' serving seen log (Waits k) le h = (h.0, omega arith)
  later_by tickets tickets' serving seen log (Acts k) le h = (h.0, omega arith, h.2)

  -- with one more ticket drawn
  later : (log : List (Entry C R)) (tickets tickets' serving made o : ℕ) (ended : List (Item C R)) (v : V) → tickets ≤ tickets' → Runs log tickets serving made o ended v → Runs log tickets' serving made o ended v
  later log tickets tickets' serving made o ended v le p = record {
    below = p.below;
    own = p.own;
    known = p.known;
    root = p.root;
    running = p.running;
    phase_is = later_by tickets tickets' serving (length v.seen) (length log) v.phase le p.phase_is;
  }

  draw_keeps : (s : St) (r : Rule s) (id : ℕ) (v : V) → get_elem? s.views id ≡ some v → v.kind ≡ Pass → v.phase ≡ Idle → get_or s.words 0 0 < 2 ^ 62
      → Drawn s id (record v { ticket = get_or s.words 0 0; phase = Waits (get_or s.words 0 0) }) (get_or s.words 0 0 + 1)
  draw_keeps s r id v at pass rests low =
      let n : ℕ = get_or s.words 0 0 in
      let w : V = record v { ticket = n; phase = Waits n } in
      let k = seat_of s r id v at pass in let p = r.passes id v at pass in
      let two = r.two in
      let zeroth : get_or (set s.words 0 (n + 1)) 0 0 ≡ n + 1 = (let here : 0 < length s.words = omega arith in get_or-set_same s.words 0 (n + 1) 0 here) in
      let first' : get_or (set s.words 0 (n + 1)) 1 0 ≡ get_or s.words 1 0 = get_or-set_other s.words 0 1 (n + 1) 0 (λ (e : 1 ≡ 0). omega arith) in
      let same : outs s.views ≡ outs (set s.views id w) = sym (outs_same s.views id v w at refl) in record {
        log = r.log;
        made = r.made;
        ended = r.ended;
        two = length-set s.words 0 (n + 1) ∙ r.two;
        one = r.one;
        served = first' ∙ r.served;
        order = (let o = r.order in omega arith);
        bound = omega arith;
        legal = r.legal;
        seats = each (λ (j : ℕ) (u : V). u.kind ≢ Spent → Sees r.log u) s.views id w
            (λ _. record { seen = k.seen; legal = k.legal; setup_is = k.setup_is; left = k.left; right = k.right; left_legal = k.left_legal; right_legal = k.right_legal; note = λ e. absurd (cc (pass, e)) }) (λ j u _ there. r.seats j u there);
        passes = each (λ (j : ℕ) (u : V). u.kind ≡ Pass → Runs r.log (get_or (set s.words 0 (n + 1)) 0 0) (length r.log) r.made (outs (set s.views id w)) r.ended u) s.views id w
            (λ _. subst (λ (x : ℕ × ℕ). Runs r.log x.0 (length r.log) r.made x.1 r.ended w) (λ i. (sym zeroth i, same i))
            record { below = p.below; own = p.own; known = p.known; root = p.root; running = p.running; phase_is = (r.order, omega arith) })
            (λ j u _ there is. later r.log (get_or s.words 0 0) (get_or (set s.words 0 (n + 1)) 0 0) (length r.log) r.made (outs (set s.views id w)) r.ended u (omega arith) (outs_moved s r (outs (set s.views id w)) j u same there is));
        holders = λ t low' high. dite (ℕ_discrete t n)
            (λ e. (id, w, set_here s.views id w (at_below s.views id v at), held_is w n pass refl ∙ ap some (sym e)))
            (λ ne. has_else held_of s.views id v w at t (λ e. some-ne-none t (sym e ∙ held_rests v pass rests)) (r.holders t low' (omega arith)));
        apart = distinct_same name_of s.views id v w at refl r.apart;
        queued = distinct_set held_of s.views id w r.queued (λ j t u ne there held mine. let b = between s r j t u there held in let e = some-injective n t (sym (held_is w n pass refl) ∙ mine) in omega arith);
        root = has_same name_of s.views id v w at refl 0 r.root;
        covered = λ m below gone. has_same name_of s.views id v w at refl m (r.covered m below gone);
        ends = r.ends;
        ended_apart = r.ended_apart;
        count = (let c = r.count in omega arith);
        unmade = r.unmade;
        whole = whole_set s.views id v w r.log at r.whole (λ kind is. (kind, is));
        home = λ idle. r.home (quiet_acts s.views id v w at (λ t _ is. absurd (cc (rests, is))) idle);
      }

  pub draws : (slots id old : ℕ) (me : Me S V) → me.0.kind ≡ Pass → me.0.phase ≡ Idle → old < 2 ^ 62 → Allows Rule slots id me 0 (λ n. either (eqb n old) (old + 1) n) (drew (step slots 0 old (old + 1) none) me)
  draws slots id old me pass rests low s r deep at small =
      let n : ℕ = get_or s.words 0 0 in
      exchanged n old (old + 1) (λ (m : ℕ). (w : V) × (a : Act S) × Rattle.atomic_table.specs.Table.Valid s.homes me.1 a × Rule (stepped s 0 m id me.1 w a) × drew (step slots 0 old (old + 1) none) me n (w, Rattle.atomic_table.specs.Table.carried_after me.1 a))
      (λ hit. (
        record me.0 { ticket = n; phase = Waits n },
        keeps,
        tt,
        subst (λ (m : ℕ). Drawn s id (record me.0 { ticket = n; phase = Waits n }) m) (ap (λ (x : ℕ). x + 1) hit) (draw_keeps s r id me.0 at pass rests (omega arith)),
        ((λ _. refl), (λ ne. absurd (ne hit))),
      ))
      (λ miss. (
        record me.0 { ticket = n },
        keeps,
        tt,
        unread s 0 s.homes (set s.views id (record me.0 { ticket = n })) (glance_keeps s r id n me.0 at pass),
        ((λ e. absurd (miss e)), (λ _. refl)),
      ))

  -- nobody else has found its turn
  alone : (s : St) (r : Rule s) (id t : ℕ) (v : V) → get_elem? s.views id ≡ some v → v.kind ≡ Pass → v.phase ≡ Waits t → length r.log ≡ t → NoneActs s.views
  alone s r id t v at pass waits turn j k u there kind acts =
      let p = (r.passes j u there kind).phase_is in
      let q : (k ≡ length r.log) × (k < get_or s.words 0 0) × (length u.seen ≡ length r.log) = subst (InPhase (get_or s.words 0 0) (length r.log) (length u.seen) (length r.log)) acts p in
      let e : j ≡ id = r.queued j id t u v there at (held_is u t kind (ap ticket_in acts ∙ ap some (q.0 ∙ turn))) (held_is v t pass (ap ticket_in waits)) in
      let same = one_value s.views id u v (subst (λ (x : ℕ). get_elem? s.views x ≡ some u) e there) at in
      let clash : Acts k ≡ Waits t = sym acts ∙ (ap (λ (x : V). x.phase) same ∙ waits) in cc clash

  look_keeps : (s : St) (r : Rule s) (id t : ℕ) (v : V) → get_elem? s.views id ≡ some v → v.kind ≡ Pass → v.phase ≡ Waits t → length r.log ≡ t
      → Rule record { words = s.words; homes = set s.homes 0 none; views = set s.views id (record v { phase = Acts t; seen = r.log }) }
  look_keeps s r id t v at pass waits turn =
      let w : V = record v { phase = Acts t; seen = r.log } in
      let k = seat_of s r id v at pass in let p = r.passes id v at pass in
      let held : held_of w ≡ held_of v = held_is w t pass refl ∙ sym (held_is v t pass (ap ticket_in waits)) in
      let b = between s r id t v at (held_is v t pass (ap ticket_in waits)) in
      let same : outs s.views ≡ outs (set s.views id w) = sym (outs_same s.views id v w at refl) in record {
        log = r.log;
        made = r.made;
        ended = r.ended;
        two = r.two;
        one = length-set s.homes 0 none ∙ r.one;
        served = r.served;
        order = r.order;
        bound = r.bound;
        legal = r.legal;
        seats = each (λ (j : ℕ) (u : V). u.kind ≢ Spent → Sees r.log u) s.views id w
            (λ _. record {
              seen = prefix_refl r.log;
              legal = r.legal;
              setup_is = k.setup_is;
              left = prefix_trans v.left v.seen r.log k.left k.seen;
              right = prefix_trans v.right v.seen r.log k.right k.seen;
              left_legal = k.left_legal;
              right_legal = k.right_legal;
              note = λ e. absurd (cc (pass, e));
            }) (λ j u _ there. r.seats j u there);
        passes = each (λ (j : ℕ) (u : V). u.kind ≡ Pass → Runs r.log (get_or s.words 0 0) (length r.log) r.made (outs (set s.views id w)) r.ended u) s.views id w
            (λ _. subst (λ (x : ℕ). Runs r.log (get_or s.words 0 0) (length r.log) r.made x r.ended w) same
            record { below = p.below; own = p.own; known = p.own; root = p.root; running = p.running; phase_is = (sym turn, b.1, refl) })
            (λ j u _ there is. outs_moved s r (outs (set s.views id w)) j u same there is);
        holders = λ h low high. has_same held_of s.views id v w at held h (r.holders h low high);
        apart = distinct_same name_of s.views id v w at refl r.apart;
        queued = distinct_same held_of s.views id v w at held r.queued;
        root = has_same name_of s.views id v w at refl 0 r.root;
        covered = λ m below gone. has_same name_of s.views id v w at refl m (r.covered m below gone);
        ends = r.ends;
        ended_apart = r.ended_apart;
        count = (let c = r.count in omega arith);
        unmade = r.unmade;
        whole = (id, w, set_here s.views id w (at_below s.views id v at), pass, refl);
        home = λ idle. absurd (idle id t w (set_here s.views id w (at_below s.views id v at)) pass refl);
      }

  pub looks : (slots id t : ℕ) (me : Me S V) → me.0.kind ≡ Pass → me.0.phase ≡ Waits t → Allows Rule slots id me 1 (λ n. n) (looked setup stands lawful (step slots 1 0 0 none) me)
  looks slots id t me pass waits s r deep at small =
      let n : ℕ = get_or s.words 1 0 in
      dite (ℕ_discrete n t)
      (λ hit.
      let turn : length r.log ≡ t = sym r.served ∙ hit in
      let k = seat_of s r id me.0 at pass in let p = r.passes id me.0 at pass in
      let h = r.home (alone s r id t me.0 at pass waits turn) in (
        record me.0 { phase = Acts t; seen = r.log },
        takes 0 (Some h.0),
        h.1,
        unread s 1 (set s.homes 0 none) (set s.views id (record me.0 { phase = Acts t; seen = r.log })) (look_keeps s r id t me.0 at pass waits turn),
        λ t' waits'. let same : t ≡ t' = cc (waits, waits') in (
          (λ _. (
            r.log,
            h.0,
            (λ i. (record me.0 { phase = Acts (same i); seen = r.log }, (0, Some h.0) ∷ me.1)),
            record {
              longer_by = k.seen;
              length_is = sym r.served;
              own = p.own;
              stands_for = h.2;
              set_up = k.setup_is ∙ ap Some (sym h.3);
              legal = subst (λ (x : G). lawful x r.log) (sym h.3) r.legal;
            },
          )),
          (λ ne. absurd (ne (hit ∙ same))),
        ),
      ))
      (λ miss. (
        me.0,
        keeps,
        tt,
        unread s 1 s.homes (set s.views id me.0) (subst (λ (vs : List V). Rule record { words = s.words; homes = s.homes; views = vs }) (sym (set_again s.views id me.0 at)) r),
        λ t' waits'. let same : t ≡ t' = cc (waits, waits') in ((λ e. absurd (miss (e ∙ sym same))), (λ _. refl)),
      ))

  -- a pass that isn't the caller, once the caller's call is in the history
  other_phase : (tickets serving seen log : ℕ) (p : Phase) → serving ≡ log → InPhase tickets serving seen log p → ((t : ℕ) → ticket_in p ≡ some t → t ≢ serving) → InPhase tickets (serving + 1) seen (log + 1) p
  other_phase tickets serving seen log Idle e h ne = tt
  other_phase tickets serving seen log (Waits t) e h ne = let apart = ne t refl in (omega arith, h.1)
  other_phase tickets serving seen log (Acts t) e h ne = absurd (ne t refl h.0)

  one_longer : (log : List (Entry C R)) (e : Entry C R) → length (log ++ e ∷ []) ≡ length log + 1
  one_longer log e = length-append log (e ∷ [])

  hand_keeps : ((x : M) (h : List (Entry C R)) → stands x h → lawful (setup x) h) → (s : St) (r : Rule s) (id t : ℕ) (v : V) (d : Slot M C R) (c : C) (a : R) → get_elem? s.views id ≡ some v → v.kind ≡ Pass → v.phase ≡ Acts t → t < 2 ^ 62
      → stands d.machine (v.seen ++ entry v.number c a ∷ []) → v.setup ≡ Some (setup d.machine)
      → Rule record { words = set s.words 1 ((get_or s.words 1 0 + 1) % 2 ^ 64); homes = set s.homes 0 (some (Some d)); views = set s.views id (handed_on v c a) }
  hand_keeps law s r id t v d c a at pass acts few stand set_up =
      let e : Entry C R = entry v.number c a in
      let w : V = handed_on v c a in
      let k = seat_of s r id v at pass in let p = r.passes id v at pass in
      let turn : (t ≡ length r.log) × (t < get_or s.words 0 0) × (length v.seen ≡ length r.log) = subst (InPhase (get_or s.words 0 0) (length r.log) (length v.seen) (length r.log)) acts p.phase_is in
      let whole : v.seen ≡ r.log = prefix_whole v.seen r.log k.seen turn.2 in
      let stand' : stands d.machine (r.log ++ e ∷ []) = subst (λ (l : List (Entry C R)). stands d.machine (l ++ e ∷ [])) whole stand in
      let key_is : setup d.machine ≡ key = cc (set_up, k.setup_is) in
      let legal' : lawful key (r.log ++ e ∷ []) = subst (λ (x : G). lawful x (r.log ++ e ∷ [])) key_is (law d.machine (r.log ++ e ∷ []) stand') in
      let two = r.two in let served = r.served in
      let n : ℕ = (get_or s.words 1 0 + 1) % 2 ^ 64 in
      let next : n ≡ length r.log + 1 = (let q : get_or s.words 1 0 + 1 ≡ length r.log + 1 = ap (λ (x : ℕ). x + 1) served in let small : length r.log + 1 < 2 ^ 64 = omega arith in ap (λ (x : ℕ). x % 2 ^ 64) q ∙ mod-eq_of_lt small) in
      let zeroth : get_or (set s.words 1 n) 0 0 ≡ get_or s.words 0 0 = get_or-set_other s.words 1 0 n 0 (λ (e : 0 ≡ 1). omega arith) in
      let first' : get_or (set s.words 1 n) 1 0 ≡ n = (let here : 1 < length s.words = omega arith in get_or-set_same s.words 1 n 0 here) in
      let longer' : length (r.log ++ e ∷ []) ≡ length r.log + 1 = one_longer r.log e in
      let same : outs s.views ≡ outs (set s.views id w) = sym (outs_same s.views id v w at refl) in
      let mine : held_of v ≡ some t = held_is v t pass (ap ticket_in acts) in
      let grows : (h : List (Entry C R)) → IsPrefix h r.log → IsPrefix h (r.log ++ e ∷ []) = λ h q. prefix_trans h r.log (r.log ++ e ∷ []) q (prefix_more r.log (e ∷ [])) in
      let seen' : v.seen ++ e ∷ [] ≡ r.log ++ e ∷ [] = ap (λ (l : List (Entry C R)). l ++ e ∷ []) whole in record {
        log = r.log ++ e ∷ [];
        made = r.made;
        ended = r.ended;
        two = length-set s.words 1 n ∙ r.two;
        one = length-set s.homes 0 (some (Some d)) ∙ r.one;
        served = first' ∙ (next ∙ sym longer');
        order = omega arith;
        bound = (let b = r.bound in omega arith);
        legal = legal';
        seats = each (λ (j : ℕ) (u : V). u.kind ≢ Spent → Sees (r.log ++ e ∷ []) u) s.views id w
            (λ _. record {
              seen = subst (λ (l : List (Entry C R)). IsPrefix l (r.log ++ e ∷ [])) (sym seen') (prefix_refl (r.log ++ e ∷ []));
              legal = subst (lawful key) (sym seen') legal';
              setup_is = k.setup_is;
              left = prefix_trans v.left v.seen (v.seen ++ e ∷ []) k.left (prefix_more v.seen (e ∷ []));
              right = prefix_trans v.right v.seen (v.seen ++ e ∷ []) k.right (prefix_more v.seen (e ∷ []));
              left_legal = k.left_legal;
              right_legal = k.right_legal;
              note = λ x. absurd (cc (pass, x));
            })
            (λ j u _ there live. let q = r.seats j u there live in record { seen = grows u.seen q.seen; legal = q.legal; setup_is = q.setup_is; left = q.left; right = q.right; left_legal = q.left_legal; right_legal = q.right_legal; note = q.note });
        passes = each (λ (j : ℕ) (u : V). u.kind ≡ Pass → Runs (r.log ++ e ∷ []) (get_or (set s.words 1 n) 0 0) (length (r.log ++ e ∷ [])) r.made (outs (set s.views id w)) r.ended u) s.views id w
            (λ _. record {
              below = p.below;
              own = add_own r.log v.number c a v.mine p.own;
              known = add_own v.seen v.number c a v.mine p.known;
              root = λ z. (let q = p.root z in (q.0, q.1 ∙ same, q.2));
              running = p.running;
              phase_is = tt;
            })
            (λ j u ne there is. let q = r.passes j u there is in record {
              below = q.below;
              own = add_call r.log v.number c a u.number u.mine (λ clash. ne (r.apart j id v.number u v there at (name_is u is ∙ ap some clash) (name_is v pass))) q.own;
              known = q.known;
              root = λ z. (let o = q.root z in (o.0, o.1 ∙ same, o.2));
              running = q.running;
              phase_is = subst (λ (x : ℕ × ℕ). InPhase x.0 x.1 (length u.seen) x.1 u.phase) (λ i. (sym zeroth i, sym longer' i))
                  (other_phase (get_or s.words 0 0) (length r.log) (length u.seen) (length r.log) u.phase refl q.phase_is
                  (λ h held clash. ne (r.queued j id t u v there at (held_is u t is (held ∙ ap some (clash ∙ sym turn.0))) mine)));
            });
        holders = λ h low' high. has_else held_of s.views id v w at h (λ q. (let t_is = turn.0 in let same_ticket = some-injective t h (sym mine ∙ q) in omega arith)) (r.holders h (omega arith) (omega arith));
        apart = distinct_same name_of s.views id v w at refl r.apart;
        queued = distinct_none held_of s.views id w (ap (λ k. held_by k Idle) pass) r.queued;
        ends = λ h i there. let q = r.ends h i there in record { below = q.below; after_root = q.after_root; calls_are = add_call r.log v.number c a i.number i.calls (p.running h i there) q.calls_are };
        root = has_same name_of s.views id v w at refl 0 r.root;
        covered = λ m below gone. has_same name_of s.views id v w at refl m (r.covered m below gone);
        ended_apart = r.ended_apart;
        count = (let c = r.count in omega arith);
        unmade = λ m high. add_call r.log v.number c a m [] (let b = p.below in λ (x : m ≡ v.number). omega arith) (r.unmade m high);
        whole = (id, w, set_here s.views id w (at_below s.views id v at), pass, seen');
        home = λ idle. (d, (let one = r.one in let here : 0 < length s.homes = omega arith in set_here s.homes 0 (some (Some d)) here), stand', key_is);
      }

  abbrev slot_content_or : Slot M C R → S → Slot M C R
  slot_content_or d (Some x) = x
  slot_content_or d None = d

  abbrev held_or : Slot M C R → List (ℕ × S) → Slot M C R
  held_or d [] = d
  held_or d (x ∷ xs) = slot_content_or d x.1

  abbrev last_or : LastCall C R → Option (LastCall C R) → LastCall C R
  last_or l (Some x) = x
  last_or l None = l

  -- what is held is one desk
  pub same_slot : (cs : List (ℕ × S)) (d d' : Slot M C R) → cs ≡ (0, Some d) ∷ [] → cs ≡ (0, Some d') ∷ [] → d ≡ d'
  same_slot cs d d' p q = ap (held_or d) (sym p ∙ q)

  pub hands : ((x : M) (h : List (Entry C R)) → stands x h → lawful (setup x) h) → (slots id t : ℕ) (me : Me S V) (d : Slot M C R) (l : LastCall C R) (v : V) (c : C) (a : R) → me.0 ≡ v → v.kind ≡ Pass → v.phase ≡ Acts t → t < 2 ^ 62
      → me.1 ≡ (0, Some d) ∷ [] → d.last ≡ Some l → l.command.value ≡ c → l.reply.value ≡ a → stands d.machine (v.seen ++ entry v.number c a ∷ []) → v.setup ≡ Some (setup d.machine)
      → Allows Rule slots id me 1 (λ n. (n + 1) % 2 ^ 64) (handed (step slots 1 1 0 none) me)
  hands law slots id t me d l v c a v_is pass acts few has last_is c_is a_is stand set_up s r deep at small =
      let v' : V = me.0 in
      let stand' : stands d.machine (v'.seen ++ entry v'.number l.command.value l.reply.value ∷ []) =
      subst (λ (x : V × C × R). stands d.machine (x.0.seen ++ entry x.0.number x.1 x.2 ∷ [])) (λ i. (sym v_is i, sym c_is i, sym a_is i)) stand in (
        handed_on v' l.command.value l.reply.value,
        gives,
        tt,
        subst (λ (cs : List (ℕ × S)). Rule (stepped s 1 ((get_or s.words 1 0 + 1) % 2 ^ 64) id cs (handed_on v' l.command.value l.reply.value) gives)) (sym has)
            (hand_keeps law s r id t v' d l.command.value l.reply.value at (ap (λ (x : V). x.kind) v_is ∙ pass) (ap (λ (x : V). x.phase) v_is ∙ acts) few stand' (ap (λ (x : V). x.setup) v_is ∙ set_up)),
        λ d' l' has' last'. let d_is : d ≡ d' = same_slot me.1 d d' has has' in let l_is : l ≡ l' = ap (last_or l) (sym last_is ∙ (ap (λ (x : Slot M C R). x.last) d_is ∙ last')) in
            (λ i. (handed_on v' (l_is i).command.value (l_is i).reply.value, ap Rattle.atomic_table.specs.Table.rest has i)),
      )

  -- what the caller of a machine is told
  pub handed_is : (me me' : Me S V) (d : Slot M C R) (l : LastCall C R) (v : V) (c : C) (a : R) → me.0 ≡ v → me.1 ≡ (0, Some d) ∷ [] → d.last ≡ Some l → l.command.value ≡ c → l.reply.value ≡ a → (st : Rattle.atomic_table.specs.Table.Step S) (n : ℕ)
      → handed st me n me' → me' ≡ (handed_on v c a, [])
  handed_is me me' d l v c a v_is has last_is c_is a_is st n told = told d l has last_is ∙ (λ i. (handed_on (v_is i) (c_is i) (a_is i), []))

  -- the root with a pass more
  fork_keeps : (s : St) (r : Rule s) (id : ℕ) (v : V) → get_elem? s.views id ≡ some v → v.kind ≡ Pass → v.phase ≡ Idle → v.number ≡ 0 → Rule record { words = s.words; homes = s.homes; views = set s.views id (forked v) ++ new_pass v ∷ [] }
  fork_keeps s r id v at pass rests root_is =
      let w : V = forked v in
      let u : V = new_pass v in
      let vs : List V = set s.views id w in
      let k = seat_of s r id v at pass in let p = r.passes id v at pass in
      let own = p.root root_is in let made_one : 0 < r.made = (let c = r.count in omega arith) in
      let high : v.made ≡ r.made = own.0 in
      let one : weight (name_of u) ≡ 1 = weight_one v.made (omega arith) in
      let same : outs vs ≡ outs s.views = outs_same s.views id v w at refl in
      let more : outs (vs ++ u ∷ []) ≡ outs s.views + 1 = (let q = outs_more vs u in omega arith) in
      let T : ℕ = get_or s.words 0 0 in
      let N : ℕ = length r.log in
      let Sees' : ℕ → V → Type 0 = λ (j : ℕ) (x : V). x.kind ≢ Spent → Sees r.log x in
      let Runs' : ℕ → V → Type 0 = λ (j : ℕ) (x : V). x.kind ≡ Pass → Runs r.log T N (r.made + 1) (outs (vs ++ u ∷ [])) r.ended x in
      let old_name : (j : ℕ) (x : V) → get_elem? vs j ≡ some x → x.kind ≡ Pass → x.number < r.made =
      each (λ (j : ℕ) (x : V). x.kind ≡ Pass → x.number < r.made) s.views id w (λ _. p.below) (λ j x _ there is. (r.passes j x there is).below) in record {
        log = r.log;
        made = r.made + 1;
        ended = r.ended;
        two = r.two;
        one = r.one;
        served = r.served;
        order = r.order;
        bound = r.bound;
        legal = r.legal;
        seats = each_more Sees' vs u (λ _. record { seen = k.seen; legal = k.legal; setup_is = k.setup_is; left = k.left; right = k.right; left_legal = k.left_legal; right_legal = k.right_legal; note = λ e. absurd (cc e) })
            (each Sees' s.views id w (λ _. record { seen = k.seen; legal = k.legal; setup_is = k.setup_is; left = k.left; right = k.right; left_legal = k.left_legal; right_legal = k.right_legal; note = k.note }) (λ j x _ there. r.seats j x there));
        passes = each_more Runs' vs u
            (λ _. record {
              below = omega arith;
              own = r.unmade v.made (omega arith);
              known = calls_none v.made v.seen r.log k.seen (r.unmade v.made (omega arith));
              root = λ z. absurd (omega arith);
              running = λ h i there e. (let b = (r.ends h i there).below in omega arith);
              phase_is = tt;
            })
            (each Runs' s.views id w
            (λ _. record {
              below = (let b = p.below in omega arith);
              own = p.own;
              known = p.known;
              root = λ _. (ap (λ (x : ℕ). x + 1) own.0, ap (λ (x : ℕ). x + 1) own.1 ∙ sym more, own.2);
              running = p.running;
              phase_is = p.phase_is;
            })
            (λ j x ne there is. let q = r.passes j x there is in record {
              below = (let b = q.below in omega arith);
              own = q.own;
              known = q.known;
              root = λ z. absurd (ne (r.apart j id 0 x v there at (name_is x is ∙ ap some z) (name_is v pass ∙ ap some root_is)));
              running = q.running;
              phase_is = q.phase_is;
            }));
        apart = distinct_more name_of vs u (distinct_same name_of s.views id v w at refl r.apart)
            (λ j n x there is mine. let q = name_pass x n is in let b = old_name j x there q.0 in let e = q.1 in let m = some-injective v.made n mine in omega arith);
        holders = λ t low below. has_more held_of vs u t (has_same held_of s.views id v w at refl t (r.holders t low below));
        queued = distinct_more held_of vs u (distinct_same held_of s.views id v w at refl r.queued) (λ j t x there is mine. some-ne-none t (sym mine));
        root = has_more name_of vs u 0 (has_same name_of s.views id v w at refl 0 r.root);
        ends = λ h i there. let q = r.ends h i there in record { below = (let b = q.below in omega arith); after_root = q.after_root; calls_are = q.calls_are };
        covered = λ n below gone. dite (ℕ_discrete n r.made)
            (λ e. has_last name_of vs u n (ap some (high ∙ sym e)))
            (λ ne. has_more name_of vs u n (has_same name_of s.views id v w at refl n (r.covered n (omega arith) gone)));
        ended_apart = r.ended_apart;
        count = (let c = r.count in omega arith);
        unmade = λ n above. r.unmade n (omega arith);
        whole = whole_more vs u r.log (whole_set s.views id v w r.log at r.whole (λ kind is. (kind, is)));
        home = λ idle. r.home (quiet_acts s.views id v w at (λ t kind is. (kind, is)) (λ j t x there. idle j t x (at_longer vs (u ∷ []) j x there)));
      }

  pub forks : (id : ℕ) (v : V) → v.kind ≡ Pass → v.phase ≡ Idle → v.number ≡ 0 → Splits Rule id v (forked v) (new_pass v)
  forks id v pass rests root_is s r at = fork_keeps s r id v at pass rests root_is

  -- a note more
  tell_keeps : (s : St) (r : Rule s) (id : ℕ) (v : V) → get_elem? s.views id ≡ some v → v.kind ≡ Pass → Rule record { words = s.words; homes = s.homes; views = s.views ++ note_of v ∷ [] }
  tell_keeps s r id v at pass =
      let u : V = note_of v in
      let vs : List V = s.views in
      let k = seat_of s r id v at pass in
      let same : outs vs ≡ outs (vs ++ u ∷ []) = (let q = outs_more vs u in omega arith) in record {
        log = r.log;
        made = r.made;
        ended = r.ended;
        two = r.two;
        one = r.one;
        served = r.served;
        order = r.order;
        bound = r.bound;
        legal = r.legal;
        seats = each_more (λ (j : ℕ) (x : V). x.kind ≢ Spent → Sees r.log x) vs u (λ _. record { seen = k.seen; legal = k.legal; setup_is = k.setup_is; left = k.left; right = k.right; left_legal = k.left_legal; right_legal = k.right_legal; note = λ _. (refl, refl) }) r.seats;
        passes = each_more (λ (j : ℕ) (x : V). x.kind ≡ Pass → Runs r.log (get_or s.words 0 0) (length r.log) r.made (outs (vs ++ u ∷ [])) r.ended x) vs u (λ is. absurd (cc is)) (λ j x there is. outs_moved s r (outs (vs ++ u ∷ [])) j x same there is);
        apart = distinct_more name_of vs u r.apart (λ j t x there is mine. some-ne-none t (sym mine));
        queued = distinct_more held_of vs u r.queued (λ j t x there is mine. some-ne-none t (sym mine));
        holders = λ t low below. has_more held_of vs u t (r.holders t low below);
        root = has_more name_of vs u 0 r.root;
        covered = λ n below gone. has_more name_of vs u n (r.covered n below gone);
        ends = r.ends;
        ended_apart = r.ended_apart;
        count = (let c = r.count in omega arith);
        unmade = r.unmade;
        whole = whole_more vs u r.log r.whole;
        home = λ idle. r.home (λ j t x there. idle j t x (at_longer vs (u ∷ []) j x there));
      }

  pub tells : (id : ℕ) (v : V) → v.kind ≡ Pass → Splits Rule id v v (note_of v)
  tells id v pass s r at = subst (λ (vs : List V). Rule record { words = s.words; homes = s.homes; views = vs ++ note_of v ∷ [] }) (sym (set_again s.views id v at)) (tell_keeps s r id v at pass)

  -- the longer of two histories that were seen is one that was seen, and begins with both
  longer_ok : (log : List (Entry C R)) (v w : V) → Sees log v → Sees log w
      → IsPrefix (longer v.seen w.seen) log × lawful key (longer v.seen w.seen) × IsPrefix v.seen (longer v.seen w.seen) × IsPrefix w.seen (longer v.seen w.seen)
  longer_ok log v w a b = longer_cases v.seen w.seen (λ (l : List (Entry C R)). IsPrefix l log × lawful key l × IsPrefix v.seen l × IsPrefix w.seen l)
      (λ le. (a.seen, a.legal, prefix_refl v.seen, prefix_shorter w.seen v.seen log b.seen a.seen le))
      (λ lt. (b.seen, b.legal, prefix_shorter v.seen w.seen log a.seen b.seen (omega arith), prefix_refl w.seen))

  -- the other seat's view is still what it was
  there_else : (s : St) (id other : ℕ) (b w : V) → ¬ (other ≡ id) → get_elem? (set s.views id b) other ≡ some w → get_elem? s.views other ≡ some w
  there_else s id other b w ne at = sym (set_else s.views id other b ne) ∙ at

  -- no seat that is spent has found its turn
  no_more_act : (vs : List V) (other : ℕ) (w : V) → get_elem? vs other ≡ some w → ((t : ℕ) → w.kind ≡ Pass → w.phase ≢ Acts t) → NoneActs (set vs other (spent {C = C} {R = R} {G = G})) → NoneActs vs
  no_more_act vs other w at rests idle j t u there pass is = dite (ℕ_discrete j other)
      (λ e. let same = one_value vs other u w (subst (λ (j : ℕ). get_elem? vs j ≡ some u) e there) at in rests t (ap (λ (x : V). x.kind) (sym same) ∙ pass) (ap (λ (x : V). x.phase) (sym same) ∙ is))
      (λ ne. idle j t u (set_else vs other j (spent {C = C} {R = R} {G = G}) ne ∙ there) pass is)

  pub learns : (id : ℕ) (v : V) (other : ℕ) (w : V) → v.kind ≡ Pass → w.kind ≡ Note → v.phase ≡ Idle → Joins Rule id v other w (learned v w) spent
  learns id v other w pass note rests s r at ne at' =
      let b : V = learned v w in
      let z : V = spent {C = C} {R = R} {G = G} in
      let vs : List V = set s.views id b in
      let k = seat_of s r id v at pass in let p = r.passes id v at pass in
      let there : get_elem? s.views other ≡ some w = there_else s id other b w ne at' in
      let k' : Sees r.log w = r.seats other w there (λ e. cc (note, e)) in
      let h = longer_ok r.log v w k k' in
      let no_name : name_of w ≡ none = ap (λ k. name_by k w.number) note in
      let no_ticket : held_of w ≡ none = ap (λ k. held_by k w.phase) note in
      let one : outs vs ≡ outs s.views = outs_same s.views id v b at refl in
      let same : outs s.views ≡ outs (set vs other z) = sym (outs_same vs other w z at' (sym no_name) ∙ one) in
      let T : ℕ = get_or s.words 0 0 in
      let N : ℕ = length r.log in
      let Sees' : ℕ → V → Type 0 = λ (j : ℕ) (x : V). x.kind ≢ Spent → Sees r.log x in
      let Runs' : ℕ → V → Type 0 = λ (j : ℕ) (x : V). x.kind ≡ Pass → Runs r.log T N r.made (outs (set vs other z)) r.ended x in record {
        log = r.log;
        made = r.made;
        ended = r.ended;
        two = r.two;
        one = r.one;
        served = r.served;
        order = r.order;
        bound = r.bound;
        legal = r.legal;
        seats = each Sees' vs other z (λ live. absurd (live refl)) (λ j x _ e. each Sees' s.views id b (λ _. record { seen = h.0; legal = h.1; setup_is = k.setup_is; left = h.2; right = h.3; left_legal = k.legal; right_legal = k'.legal; note = k.note }) (λ j x _ there. r.seats j x there) j x e);
        passes = each Runs' vs other z (λ is. absurd (cc is)) (λ j x _ e. each Runs' s.views id b
            (λ _. record {
              below = p.below;
              own = p.own;
              known = calls_between v.number v.seen (longer v.seen w.seen) r.log v.mine h.2 h.0 p.known p.own;
              root = λ q. (let o = p.root q in (o.0, o.1 ∙ same, o.2));
              running = p.running;
              phase_is = subst (λ (x : Phase). InPhase T N (length (longer v.seen w.seen)) N x) (sym rests) tt;
            })
            (λ j x _ there is. outs_moved s r (outs (set vs other z)) j x same there is) j x e);
        apart = distinct_none name_of vs other z refl (distinct_same name_of s.views id v b at refl r.apart);
        queued = distinct_none held_of vs other z refl (distinct_same held_of s.views id v b at refl r.queued);
        holders = λ t low below. has_same held_of vs other w z at' (sym no_ticket) t (has_same held_of s.views id v b at refl t (r.holders t low below));
        root = has_same name_of vs other w z at' (sym no_name) 0 (has_same name_of s.views id v b at refl 0 r.root);
        covered = λ n below gone. has_same name_of vs other w z at' (sym no_name) n (has_same name_of s.views id v b at refl n (r.covered n below gone));
        ends = r.ends;
        ended_apart = r.ended_apart;
        count = (let c = r.count in omega arith);
        unmade = r.unmade;
        whole = whole_join s.views id other v w b z r.log at there ne pass (prefix_between v.seen (longer v.seen w.seen) r.log h.2 h.0) (λ is _. absurd (cc (note, is))) r.whole;
        home = λ idle. r.home (quiet_acts s.views id v b at (λ t kind is. (kind, is)) (no_more_act vs other w at' (λ t kind is. cc (note, kind)) idle));
      }

  pub merges : (id : ℕ) (v : V) (other : ℕ) (w : V) → v.kind ≡ Pass → v.number ≡ 0 → v.phase ≡ Idle → w.kind ≡ Pass → w.phase ≡ Idle → Joins Rule id v other w (merged v w) spent
  merges id v other w pass root_is rests pass' rests' s r at ne at' =
      let b : V = merged v w in
      let z : V = spent {C = C} {R = R} {G = G} in
      let item : Item C R = record { number = w.number; calls = w.mine } in
      let vs : List V = set s.views id b in
      let k = seat_of s r id v at pass in let p = r.passes id v at pass in
      let there : get_elem? s.views other ≡ some w = there_else s id other b w ne at' in
      let k' : Sees r.log w = seat_of s r other w there pass' in let p' = r.passes other w there pass' in
      let h = longer_ok r.log v w k k' in
      let own = p.root root_is in
      let differ : 0 < w.number = (let clash : w.number ≢ 0 = λ e. ne (r.apart other id 0 w v there at (name_is w pass' ∙ ap some e) (name_is v pass ∙ ap some root_is)) in omega arith) in
      let heavy : weight (name_of w) ≡ 1 = ap weight (name_is w pass') ∙ weight_one w.number differ in
      let one : outs vs ≡ outs s.views = outs_same s.views id v b at refl in
      let less : outs (set vs other z) + 1 ≡ outs s.views = (let q : outs (set vs other z) + weight (name_of w) ≡ outs vs + 0 = outs_set vs other w z at' in omega arith) in
      let out_is : v.out - 1 ≡ outs (set vs other z) = (let o : v.out ≡ outs s.views = own.1 in omega arith) in
      let T : ℕ = get_or s.words 0 0 in
      let N : ℕ = length r.log in
      let ended' : List (Item C R) = r.ended ++ item ∷ [] in
      let ended_is : v.ended ++ item ∷ [] ≡ ended' = ap (λ (l : List (Item C R)). l ++ item ∷ []) own.2 in
      let Sees' : ℕ → V → Type 0 = λ (j : ℕ) (x : V). x.kind ≢ Spent → Sees r.log x in
      let Runs' : ℕ → V → Type 0 = λ (j : ℕ) (x : V). j ≢ other → x.kind ≡ Pass → Runs r.log T N r.made (outs (set vs other z)) ended' x in
      let still : (x : V) → x.number ≢ w.number → ((h : ℕ) (i : Item C R) → get_elem? r.ended h ≡ some i → i.number ≢ x.number) → (h : ℕ) (i : Item C R) → get_elem? ended' h ≡ some i → i.number ≢ x.number =
      λ x apart old. each_more (λ (h : ℕ) (i : Item C R). i.number ≢ x.number) r.ended item (λ e. apart (sym e)) old in record {
        log = r.log;
        made = r.made;
        ended = ended';
        two = r.two;
        one = r.one;
        served = r.served;
        order = r.order;
        bound = r.bound;
        legal = r.legal;
        seats = each Sees' vs other z (λ live. absurd (live refl)) (λ j x _ e. each Sees' s.views id b (λ _. record { seen = h.0; legal = h.1; setup_is = k.setup_is; left = h.2; right = h.3; left_legal = k.legal; right_legal = k'.legal; note = k.note }) (λ j x _ there. r.seats j x there) j x e);
        passes = each (λ (j : ℕ) (x : V). x.kind ≡ Pass → Runs r.log T N r.made (outs (set vs other z)) ended' x) vs other z (λ is. absurd (cc is)) (λ j x far e. each Runs' s.views id b
            (λ _ _. record {
              below = p.below;
              own = p.own;
              known = calls_between v.number v.seen (longer v.seen w.seen) r.log v.mine h.2 h.0 p.known p.own;
              root = λ q. (own.0, out_is, ended_is);
              running = still b (λ e. omega arith) p.running;
              phase_is = subst (λ (x : Phase). InPhase T N (length (longer v.seen w.seen)) N x) (sym rests) tt;
            })
            (λ j x away there_x not_other is. let q = r.passes j x there_x is in record {
              below = q.below;
              own = q.own;
              known = q.known;
              root = λ e. absurd (away (r.apart j id 0 x v there_x at (name_is x is ∙ ap some e) (name_is v pass ∙ ap some root_is)));
              running = still x (λ e. not_other (r.apart j other w.number x w there_x there (name_is x is ∙ ap some e) (name_is w pass'))) q.running;
              phase_is = q.phase_is;
            }) j x e far);
        apart = distinct_none name_of vs other z refl (distinct_same name_of s.views id v b at refl r.apart);
        queued = distinct_none held_of vs other z refl (distinct_same held_of s.views id v b at refl r.queued);
        ends = each_more (λ (h : ℕ) (i : Item C R). EndedOk setup stands lawful key r.log r.made i) r.ended item record { below = p'.below; after_root = differ; calls_are = p'.own } r.ends;
        holders = λ t low below. has_same held_of vs other w z at' (sym (held_rests w pass' rests')) t (has_same held_of s.views id v b at refl t (r.holders t low below));
        root = has_else name_of vs other w z at' 0 (λ e. (let zero_is = some-injective w.number 0 (sym (name_is w pass') ∙ e) in omega arith)) (has_same name_of s.views id v b at refl 0 r.root);
        covered = λ n below gone. has_else name_of vs other w z at' n (λ e. gone (length r.ended) item (at_last r.ended item (length r.ended) refl) (some-injective w.number n (sym (name_is w pass') ∙ e)))
            (has_same name_of s.views id v b at refl n (r.covered n below (λ h i e. gone h i (at_longer r.ended (item ∷ []) h i e))));
        ended_apart = apart_more r.ended item r.ended_apart p'.running;
        count = (let c = r.count in let more = length-append r.ended (item ∷ []) in omega arith);
        unmade = r.unmade;
        whole = whole_join s.views id other v w b z r.log at there ne pass (prefix_between v.seen (longer v.seen w.seen) r.log h.2 h.0) (λ _. prefix_between w.seen (longer v.seen w.seen) r.log h.3 h.0) r.whole;
        home = λ idle. r.home (quiet_acts s.views id v b at (λ t kind is. (kind, is)) (no_more_act vs other w at' (λ t kind is. cc (rests', is)) idle));
      }

  -- a new lock
  pub opens : ((x : M) (h : List (Entry C R)) → stands x h → lawful (setup x) h) → (m : M) → stands m [] → setup m ≡ key → Rule (opening (0 ∷ 0 ∷ []) (Some record { machine = m; last = None } ∷ []) (first key))
  opens law m stand is =
      let legal : lawful key [] = subst (λ (x : G). lawful x []) is (law m [] stand) in
      let only : (P : ℕ → V → Type 0) → P 0 (first key) → (j : ℕ) (v : V) → get_elem? (first key ∷ []) j ≡ some v → P j v = λ P here j v e. each_more P [] (first key) here (λ j v e. absurd (some-ne-none v (sym e))) j v e in record {
        log = [];
        made = 1;
        ended = [];
        two = refl;
        one = refl;
        served = refl;
        order = omega arith;
        bound = omega arith;
        legal = legal;
        seats = only (λ (j : ℕ) (v : V). v.kind ≢ Spent → Sees [] v) (λ _. record { seen = prefix_none []; legal = legal; setup_is = refl; left = prefix_none []; right = prefix_none []; left_legal = legal; right_legal = legal; note = λ e. absurd (cc e) });
        passes = only (λ (j : ℕ) (v : V). v.kind ≡ Pass → Runs [] 0 0 1 0 [] v)
            (λ _. record { below = omega arith; own = refl; known = refl; root = λ _. (refl, refl, refl); running = λ h i e. absurd (some-ne-none i (sym e)); phase_is = tt });
        apart = λ i j n v w a b _ _. (let x = at_below (first key ∷ []) i v a in let y = at_below (first key ∷ []) j w b in omega arith);
        queued = λ i j n v w a b _ _. (let x = at_below (first key ∷ []) i v a in let y = at_below (first key ∷ []) j w b in omega arith);
        ends = λ h i e. absurd (some-ne-none i (sym e));
        holders = λ t low high. absurd (omega arith);
        root = (0, first key, refl, refl);
        covered = λ n below gone. let zero_is : 0 ≡ n = omega arith in (0, first key, refl, ap some zero_is);
        ended_apart = λ h k i j e _ _. absurd (some-ne-none i (sym e));
        count = refl;
        unmade = λ n high. refl;
        whole = (0, first key, refl, refl, refl);
        home = λ _. (record { machine = m; last = None }, refl, stand, is);
      }
