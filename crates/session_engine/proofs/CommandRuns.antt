-- How commands add up.
use Rattle.std.specs.Prelude.{◌^◌}
use Rattle.std.proofs.Common.{◌≤◌, ◌≡◌, ℕ, Bool, true, false, ◌||◌, List, [], ◌∷◌, ◌++◌, None, refl, sym, ap, ◌∙◌, subst, append_assoc, append-nil}
use Rattle.std.specs.List.{flat_map, list_any}
use Rattle.std.proofs.lemmas.List.{map-append}
use Rattle.std.proofs.lemmas.List.Folds.{list_any-append}
use Rattle.std.proofs.lemmas.Grind.{flat_map-append}
use Rattle.grpc_heads.specs.CallEnd.{CallEnd}
use Rattle.h2_exchange.specs.StreamParts.{Item}
use Rattle.table_lock.specs.declared.machine.Entry.{Entry}
use Rattle.table_lock.specs.Lock.{entry}
use Rattle.table_lock.specs.Passes.{PassView, IsExtended, IsCalled, IsSound}
use Rattle.table_lock.proofs.Extends.{extended_none, extended_more, extended_call}
use Rattle.table_model.specs.declared.command.Command.{Command}
use Rattle.table_model.specs.declared.command.Command.TheVariants as command
use Rattle.table_model.specs.declared.reply.Reply.{Reply}
use Rattle.table_model.specs.declared.reply.Reply.TheVariants as reply
use Rattle.table_model.specs.Event.{Event}
use Rattle.call_answers.specs.declared.orders.Setting.{Setting}
use Rattle.call_orders.specs.Owed.{items_for, has_end, is_end, modify_items, is_operate, is_leave, id_of, moment_of}
use Rattle.call_orders.specs.Actions.{AreDone, AreDoneUnless, AreDoneInPart, timeless}
use Rattle.call_orders.specs.Orders.{is_stopped, is_stopped_by}
use Rattle.session_engine.specs.declared.step.Step.{Step}
use Rattle.session_engine.specs.declared.step.Progress.{Progress}
use Rattle.session_engine.specs.declared.step.Progress.TheVariants.{GoesOn, Ended, OutOfMemory, Spent}
use Rattle.session_engine.specs.Stands.{items_in, own, MakesEntries, IsSpentBehind}
use Rattle.session_engine.specs.Steps.{AddsItems, AddsAnswer, AnswerFirst, AnswerAll, AreShort, DoesMessage, DoesCommands, PassGoes, is_modify}

abbrev event : Command → Reply → Event
event c r = record { command = c; reply = r }

or_true : (b : Bool) → (b || true) ≡ true
or_true true = refl
or_true false = refl

pub or_false : (b : Bool) → (b || false) ≡ b
or_false true = refl
or_false false = refl

pub or_assoc : (a b c : Bool) → ((a || b) || c) ≡ (a || (b || c))
or_assoc true b c = refl
or_assoc false b c = refl

pub ends_neither : (xs ys : List (Item CallEnd)) → has_end xs ≡ false → has_end ys ≡ false → has_end (xs ++ ys) ≡ false
ends_neither xs ys e f = list_any-append is_end xs ys ∙ (ap (λ (b : Bool). b || list_any is_end ys) e ∙ f)

ends_second : (xs ys : List (Item CallEnd)) → has_end ys ≡ true → has_end (xs ++ ys) ≡ true
ends_second xs ys f = list_any-append is_end xs ys ∙ (ap (λ (b : Bool). list_any is_end xs || b) f ∙ or_true (list_any is_end xs))

-- a command that is answered Stopped ends its call
stopped_ends : (s : Setting) (c : Command) → has_end (items_for s (event c reply.Stopped)) ≡ true
stopped_ends s command.Begin = refl
stopped_ends s (command.SetParams session asked) = refl
stopped_ends s (command.Announce session id) = refl
stopped_ends s (command.Operate session operation now) = refl
stopped_ends s (command.Collect session) = refl
stopped_ends s (command.Leave session) = refl
stopped_ends s (command.Flush by which now) = refl
stopped_ends s (command.Select which kinds) = refl
stopped_ends s (command.Take worker now) = refl
stopped_ends s (command.Report number said now) = refl
stopped_ends s command.Halt = refl

-- the items of a Modify call's command
items_same : (s : Setting) (c : Command) (r : Reply) → is_modify c ≡ true → items_for s (event c r) ≡ modify_items s.numbering (is_operate c) (id_of c) (moment_of c) r
items_same s command.Begin r e = absurd (cc e)
items_same s (command.SetParams session asked) r e = refl
items_same s (command.Announce session id) r e = refl
items_same s (command.Operate session operation now) r e = refl
items_same s (command.Collect session) r e = refl
items_same s (command.Leave session) r e = absurd (cc e)
items_same s (command.Flush by which now) r e = absurd (cc e)
items_same s (command.Select which kinds) r e = absurd (cc e)
items_same s (command.Take worker now) r e = refl
items_same s (command.Report number said now) r e = refl
items_same s command.Halt r e = refl

never_leaves : (c : Command) → is_modify c ≡ true → is_leave c ≡ false
never_leaves command.Begin e = refl
never_leaves (command.SetParams session asked) e = refl
never_leaves (command.Announce session id) e = refl
never_leaves (command.Operate session operation now) e = refl
never_leaves (command.Collect session) e = refl
never_leaves (command.Leave session) e = absurd (cc e)
never_leaves (command.Flush by which now) e = refl
never_leaves (command.Select which kinds) e = refl
never_leaves (command.Take worker now) e = refl
never_leaves (command.Report number said now) e = refl
never_leaves command.Halt e = refl

pub timeless_twice : (c : Command) → timeless c ≡ timeless (timeless c)
timeless_twice command.Begin = refl
timeless_twice (command.SetParams session asked) = refl
timeless_twice (command.Announce session id) = refl
timeless_twice (command.Operate session operation now) = refl
timeless_twice (command.Collect session) = refl
timeless_twice (command.Leave session) = refl
timeless_twice (command.Flush by which now) = refl
timeless_twice (command.Select which kinds) = refl
timeless_twice (command.Take worker now) = refl
timeless_twice (command.Report number said now) = refl
timeless_twice command.Halt = refl

done_by : (b : Bool) (done : List Event) (more : Type 0) → b ≡ false → more → AreDoneUnless b done more
done_by true done more e m = absurd (cc e)
done_by false done more e m = m

done_last : (b : Bool) (more : Type 0) → b ≡ true → AreDoneUnless b [] more
done_last true more e = refl
done_last false more e = absurd (cc e)

-- there is a way to do commands
pub can_be_done : (s : Setting) (cs : List Command) → (done : List Event) × AreDone s cs done
can_be_done s [] = ([], refl)
can_be_done s (c ∷ cs) = (event c reply.Stopped ∷ [], (refl, done_last _ _ (stopped_ends s c)))

begun_part : (s : Setting) (c : Command) (r : Reply) (cs : List Command) (b : Bool) → has_end (items_for s (event c r)) ≡ b → AreDoneInPart s (timeless c ∷ cs) (event c r ∷ [])
begun_part s c r cs true e = ([], (timeless_twice c, done_last _ _ e))
begun_part s c r cs false e = let rest = can_be_done s cs in (rest.0, (timeless_twice c, done_by _ _ _ e rest.1))

abbrev pub goes_on : Progress → Bool
goes_on GoesOn = true
goes_on Ended = false
goes_on OutOfMemory = false
goes_on Spent = false

module _ {G : Type 0} (lawful : G → List (Entry Command Reply) → Type 0) (setup : G) where
  pub sound_still : (p q : PassView Command Reply G) → q ≡ record p { ticket = q.ticket } → IsSound lawful setup p → IsSound lawful setup q
  sound_still p q e h = subst (λ (x : PassView Command Reply G). IsSound lawful setup x) (sym e) (record { legal = h.legal; own = h.own })

  -- a call was Spent, and made nothing
  pub spent_behind : (p q : PassView Command Reply G) → 2 ^ 62 ≤ q.ticket → q ≡ record p { ticket = q.ticket } → IsSound lawful setup p → IsSpentBehind lawful setup p q []
  spent_behind p q late e h = (p, extended_none lawful setup p h, e, late)

  pub spent_made : (s : Setting) (p q : PassView Command Reply G) (c : Command) (before : Step) → is_modify c ≡ true → 2 ^ 62 ≤ q.ticket → q ≡ record p { ticket = q.ticket } → IsSound lawful setup p → before.end ≡ None
      → DoesCommands lawful setup s p q (timeless c ∷ []) [] Spent before before
  spent_made s p q c before is late e h no_end = record {
    did = [];
    calls = spent_behind p q late e h;
    sound = sound_still p q e h;
    answered = λ others. (event c reply.Stopped, never_leaves c is, begun_part s c reply.Stopped others (has_end (items_for s (event c reply.Stopped))) refl);
    plain = refl;
    told = no_end;
    halted = sym (or_false before.halted);
  }

  one_told : (w : Progress) (items : List (Item CallEnd)) (before after : Step) → AddsAnswer w items before after → AddsItems w items before after
  one_told GoesOn items before after h = h
  one_told Ended items before after h = h
  one_told OutOfMemory items before after h = (h.0, ([], items, refl, h.1 ∙ sym (append-nil (items_in before))))
  one_told Spent items before after h = absurd h

  one_answered : (s : Setting) (w : Progress) (c : Command) (r : Reply) (before after : Step) → AddsAnswer w (items_for s (event c r)) before after → AnswerFirst s w (timeless c ∷ []) (event c r ∷ [])
  one_answered s GoesOn c r before after h = λ others more done. (timeless_twice c, done_by _ _ _ h.0 done)
  one_answered s Ended c r before after h = λ others. (timeless_twice c, done_last _ _ h.0)
  one_answered s OutOfMemory c r before after h = λ others. begun_part s c r others (has_end (items_for s (event c r))) refl
  one_answered s Spent c r before after h = absurd h

  called_goes : (w : Progress) (p q : PassView Command Reply G) (c : Command) (r : Reply) (items : List (Item CallEnd)) (before after : Step) → IsCalled lawful setup p q c r → AddsAnswer w items before after
      → PassGoes lawful setup w p q (event c r ∷ [])
  called_goes GoesOn p q c r items before after called h = extended_call lawful setup p q c r called
  called_goes Ended p q c r items before after called h = extended_call lawful setup p q c r called
  called_goes OutOfMemory p q c r items before after called h = extended_call lawful setup p q c r called
  called_goes Spent p q c r items before after called h = absurd h

  pub one_made : (s : Setting) (p q : PassView Command Reply G) (c : Command) (r : Reply) (w : Progress) (before after : Step) → is_modify c ≡ true → IsCalled lawful setup p q c r
      → AddsAnswer w (modify_items s.numbering (is_operate c) (id_of c) (moment_of c) r) before after → after.halted ≡ (before.halted || is_stopped_by r)
      → DoesCommands lawful setup s p q (timeless c ∷ []) [] w before after
  one_made s p q c r w before after is called tells halted =
      let tells' : AddsAnswer w (items_for s (event c r)) before after = subst (λ (x : List (Item CallEnd)). AddsAnswer w x before after) (sym (items_same s c r is)) tells in
      let whole : flat_map (items_for s) (event c r ∷ []) ++ [] ≡ items_for s (event c r) = append-nil _ ∙ append-nil _ in
      record {
        did = event c r ∷ [];
        calls = called_goes w p q c r (items_for s (event c r)) before after called tells';
        sound = (extended_call lawful setup p q c r called).sound;
        answered = one_answered s w c r before after tells';
        plain = or_false (is_leave c) ∙ never_leaves c is;
        told = subst (λ (x : List (Item CallEnd)). AddsItems w x before after) (sym whole) (one_told w _ before after tells');
        halted = halted ∙ ap (λ (b : Bool). before.halted || b) (sym (or_false (is_stopped_by r)));
      }

  -- ---- commands in a row

  pub none_made : (s : Setting) (p : PassView Command Reply G) (before : Step) → IsSound lawful setup p → before.end ≡ None → DoesCommands lawful setup s p p [] [] GoesOn before before
  none_made s p before h no_end = record {
    did = [];
    calls = extended_none lawful setup p h;
    sound = h;
    answered = λ others more done. done;
    plain = refl;
    told = (refl, sym (append-nil (items_in before)), no_end);
    halted = sym (or_false before.halted);
  }

  -- what was told of the first commands, and then of others
  items_then : (w : Progress) (xs ys : List (Item CallEnd)) (a b c : Step) → AddsItems GoesOn xs a b → AddsItems w ys b c → AddsItems w (xs ++ ys) a c
  items_then GoesOn xs ys a b c h k = (ends_neither xs ys h.0 k.0, k.1 ∙ (ap (λ (l : List (Item CallEnd)). l ++ ys) h.1 ∙ append_assoc (items_in a) xs ys), k.2)
  items_then Ended xs ys a b c h k = (ends_second xs ys k.0, k.1 ∙ (ap (λ (l : List (Item CallEnd)). l ++ ys) h.1 ∙ append_assoc (items_in a) xs ys))
  items_then OutOfMemory xs ys a b c h k =
      let made : List (Item CallEnd) = k.1.0 in let rest : List (Item CallEnd) = k.1.1 in
      (k.0, (xs ++ made, rest, ap (λ (l : List (Item CallEnd)). xs ++ l) k.1.2 ∙ sym (append_assoc xs made rest), k.1.3 ∙ (ap (λ (l : List (Item CallEnd)). l ++ made) h.1 ∙ append_assoc (items_in a) xs made)))
  items_then Spent xs ys a b c h k = k

  -- events of one pass behind others
  pub entries_then : (p q r : PassView Command Reply G) (xs ys : List Event) → MakesEntries lawful setup p q xs → MakesEntries lawful setup q r ys → MakesEntries lawful setup p r (xs ++ ys)
  entries_then p q r xs ys h k =
      let same : own q.number ys ≡ own p.number ys = ap (λ (n : ℕ). own n ys) h.same.2 in
      let merged_bytes : own p.number xs ++ own q.number ys ≡ own p.number (xs ++ ys) =
      ap (λ (l : List (Entry Command Reply)). own p.number xs ++ l) same ∙ sym (map-append (λ (e : Event). entry p.number e.command e.reply) xs ys) in
      subst (λ (l : List (Entry Command Reply)). IsExtended lawful setup p r l) merged_bytes (extended_more lawful setup p q r (own p.number xs) (own q.number ys) h k)

  -- whatever comes of the others
  goes_then : (w : Progress) (p q r : PassView Command Reply G) (xs ys : List Event) → MakesEntries lawful setup p q xs → PassGoes lawful setup w q r ys → PassGoes lawful setup w p r (xs ++ ys)
  goes_then GoesOn p q r xs ys h k = entries_then p q r xs ys h k
  goes_then Ended p q r xs ys h k = entries_then p q r xs ys h k
  goes_then OutOfMemory p q r xs ys h k = entries_then p q r xs ys h k
  goes_then Spent p q r xs ys h k = (k.0, entries_then p q k.0 xs ys h k.1, k.2, k.3)

  answered_then : (s : Setting) (w : Progress) (cs ds : List Command) (xs ys : List Event) → AnswerFirst s GoesOn cs xs → AnswerFirst s w ds ys → AnswerFirst s w (cs ++ ds) (xs ++ ys)
  answered_then s GoesOn cs ds xs ys h k = λ others more done.
      let at : AreDone s (cs ++ (ds ++ others)) (xs ++ (ys ++ more)) = h (ds ++ others) (ys ++ more) (k others more done) in
      rw (append_assoc cs ds others, append_assoc xs ys more) at
  answered_then s Ended cs ds xs ys h k = λ others.
      let at : AreDone s (cs ++ (ds ++ others)) (xs ++ ys) = h (ds ++ others) ys (k others) in
      rw (append_assoc cs ds others) at
  answered_then s OutOfMemory cs ds xs ys h k = λ others.
      let more = (k others).0 in
      let at : AreDone s (cs ++ (ds ++ others)) (xs ++ (ys ++ more)) = h (ds ++ others) (ys ++ more) (k others).1 in
      (more, rw (append_assoc cs ds others, append_assoc xs ys more) at)
  answered_then s Spent cs ds xs ys h k = λ others.
      let next = (k others).0 in let more = (k others).2.0 in
      let at : AreDone s (cs ++ (ds ++ others)) (xs ++ ((ys ++ next ∷ []) ++ more)) = h (ds ++ others) ((ys ++ next ∷ []) ++ more) (k others).2.1 in
      let same : xs ++ ((ys ++ next ∷ []) ++ more) ≡ ((xs ++ ys) ++ next ∷ []) ++ more =
      sym (append_assoc xs (ys ++ next ∷ []) more) ∙ ap (λ (l : List Event). l ++ more) (sym (append_assoc xs ys (next ∷ []))) in
      (next, (k others).1, (more, subst (λ (l : List Command). AreDone s l (((xs ++ ys) ++ next ∷ []) ++ more)) (sym (append_assoc cs ds others)) (subst (λ (l : List Event). AreDone s (cs ++ (ds ++ others)) l) same at)))

  pub made_then : (s : Setting) (p q r : PassView Command Reply G) (cs ds : List Command) (more : List (Item CallEnd)) (w : Progress) (a b c : Step)
      → DoesCommands lawful setup s p q cs [] GoesOn a b → DoesCommands lawful setup s q r ds more w b c → DoesCommands lawful setup s p r (cs ++ ds) more w a c
  made_then s p q r cs ds more w a b c h k =
      let items : (flat_map (items_for s) h.did ++ []) ++ (flat_map (items_for s) k.did ++ more) ≡ flat_map (items_for s) (h.did ++ k.did) ++ more =
      ap (λ (l : List (Item CallEnd)). l ++ (flat_map (items_for s) k.did ++ more)) (append-nil (flat_map (items_for s) h.did))
      ∙ (sym (append_assoc (flat_map (items_for s) h.did) (flat_map (items_for s) k.did) more) ∙ ap (λ (l : List (Item CallEnd)). l ++ more) (sym (flat_map-append (items_for s) h.did k.did))) in
      record {
        did = h.did ++ k.did;
        calls = goes_then w p q r h.did k.did h.calls k.calls;
        sound = k.sound;
        answered = answered_then s w cs ds h.did k.did h.answered k.answered;
        plain = list_any-append (λ (e : Event). is_leave e.command) h.did k.did ∙ (ap (λ (x : Bool). x || list_any (λ (e : Event). is_leave e.command) k.did) h.plain ∙ k.plain);
        told = subst (λ (l : List (Item CallEnd)). AddsItems w l a c) items (items_then w _ _ a b c h.told k.told);
        halted = k.halted ∙ (ap (λ (x : Bool). x || list_any is_stopped k.did) h.halted
            ∙ (or_assoc a.halted (list_any is_stopped h.did) (list_any is_stopped k.did) ∙ ap (λ (x : Bool). a.halted || x) (sym (list_any-append is_stopped h.did k.did))));
      }

  answered_over : (s : Setting) (w : Progress) (cs ds : List Command) (xs : List Event) → goes_on w ≡ false → AnswerFirst s w cs xs → AnswerFirst s w (cs ++ ds) xs
  answered_over s GoesOn cs ds xs e h = absurd (cc e)
  answered_over s Ended cs ds xs e h = λ others. rw (append_assoc cs ds others) (h (ds ++ others))
  answered_over s OutOfMemory cs ds xs e h = λ others. rw (append_assoc cs ds others) (h (ds ++ others))
  answered_over s Spent cs ds xs e h = λ others. rw (append_assoc cs ds others) (h (ds ++ others))

  -- where the first commands don't go on, those behind them aren't done
  pub made_over : (s : Setting) (p q : PassView Command Reply G) (cs ds : List Command) (more : List (Item CallEnd)) (w : Progress) (a b : Step)
      → goes_on w ≡ false → DoesCommands lawful setup s p q cs more w a b → DoesCommands lawful setup s p q (cs ++ ds) more w a b
  made_over s p q cs ds more w a b e h = record {
    did = h.did;
    calls = h.calls;
    sound = h.sound;
    answered = answered_over s w cs ds h.did e h.answered;
    plain = h.plain;
    told = h.told;
    halted = h.halted;
  }

  -- ---- want of memory

  -- nothing of the commands was done for want of memory
  pub out_of_memory_made : (s : Setting) (p : PassView Command Reply G) (cs : List Command) (before : Step) → IsSound lawful setup p → before.end ≡ None → DoesCommands lawful setup s p p cs [] OutOfMemory before before
  out_of_memory_made s p cs before h no_end = record {
    did = [];
    calls = extended_none lawful setup p h;
    sound = h;
    answered = λ others. can_be_done s (cs ++ others);
    plain = refl;
    told = (no_end, ([], [], refl, sym (append-nil (items_in before))));
    halted = sym (or_false before.halted);
  }

  -- ---- facts behind commands

  pub no_end_then : (s : Setting) (p q : PassView Command Reply G) (cs : List Command) (more : List (Item CallEnd)) (a b : Step) → DoesCommands lawful setup s p q cs more GoesOn a b → b.end ≡ None
  no_end_then s p q cs more a b h = h.told.2

  -- ---- a loop over commands

  -- the first of all commands are done, and these come
  pub record SoFar (s : Setting) (p q : PassView Command Reply G) (all pending : List Command) (a b : Step) : Type 0 where
    pub before : List Command
    pub all_is : all ≡ before ++ pending
    pub made : DoesCommands lawful setup s p q before [] GoesOn a b

  pub so_far_none : (s : Setting) (p : PassView Command Reply G) (all pending : List Command) (a : Step) → IsSound lawful setup p → a.end ≡ None → pending ≡ all → SoFar s p p all pending a a
  so_far_none s p all pending a h no_end is = record { before = []; all_is = sym is; made = none_made s p a h no_end }

  pub so_far_one : (s : Setting) (p q r : PassView Command Reply G) (all pending now : List Command) (d : Command) (a b c : Step) → SoFar s p q all pending a b → pending ≡ d ∷ now
      → DoesCommands lawful setup s q r (d ∷ []) [] GoesOn b c → SoFar s p r all now a c
  so_far_one s p q r all pending now d a b c h is one = record {
    before = h.before ++ d ∷ [];
    all_is = h.all_is ∙ (ap (λ (l : List Command). h.before ++ l) is ∙ sym (append_assoc h.before (d ∷ []) now));
    made = made_then s p q r h.before (d ∷ []) [] GoesOn a b c h.made one;
  }

  pub so_far_over : (s : Setting) (p q r : PassView Command Reply G) (all pending now : List Command) (d : Command) (w : Progress) (a b c : Step) → goes_on w ≡ false → SoFar s p q all pending a b → pending ≡ d ∷ now
      → DoesCommands lawful setup s q r (d ∷ []) [] w b c → DoesCommands lawful setup s p r all [] w a c
  so_far_over s p q r all pending now d w a b c over h is one =
      let whole : (h.before ++ d ∷ []) ++ now ≡ all = append_assoc h.before (d ∷ []) now ∙ (ap (λ (l : List Command). h.before ++ l) (sym is) ∙ sym h.all_is) in
      subst (λ (l : List Command). DoesCommands lawful setup s p r l [] w a c) whole
      (made_over s p r (h.before ++ d ∷ []) now [] w a c over (made_then s p q r h.before (d ∷ []) [] w a b c h.made one))

  pub so_far_all : (s : Setting) (p q : PassView Command Reply G) (all pending : List Command) (a b : Step) → SoFar s p q all pending a b → pending ≡ [] → DoesCommands lawful setup s p q all [] GoesOn a b
  so_far_all s p q all pending a b h is =
      let whole : h.before ≡ all = sym (append-nil h.before) ∙ (ap (λ (l : List Command). h.before ++ l) (sym is) ∙ sym h.all_is) in
      subst (λ (l : List Command). DoesCommands lawful setup s p q l [] GoesOn a b) whole h.made

  -- ---- a whole message

  answers_all : (s : Setting) (w : Progress) (cs : List Command) (did : List Event) → AnswerFirst s w cs did → AnswerAll s w cs did
  answers_all s GoesOn cs did h = subst (λ (x : List Event). AreDone s cs x) (append-nil did) (subst (λ (x : List Command). AreDone s x (did ++ [])) (append-nil cs) (h [] [] refl))
  answers_all s Ended cs did h = subst (λ (x : List Command). AreDone s x did) (append-nil cs) (h [])
  answers_all s OutOfMemory cs did h = subst (λ (x : List Command). AreDoneInPart s x did) (append-nil cs) (h [])
  answers_all s Spent cs did h = subst (λ (x : List Command). AreShort s x did) (append-nil cs) (h [])

  pub made_done : (s : Setting) (p q : PassView Command Reply G) (cs : List Command) (more : List (Item CallEnd)) (w : Progress) (a b : Step) → DoesCommands lawful setup s p q cs more w a b → DoesMessage lawful setup s p q cs more w a b
  made_done s p q cs more w a b h = record {
    did = h.did;
    calls = h.calls;
    sound = h.sound;
    answers = answers_all s w cs h.did h.answered;
    plain = h.plain;
    told = h.told;
    halted = h.halted;
  }

  refused_answers : (s : Setting) (w : Progress) → (w ≡ Spent → ⊥) → AnswerAll s w [] []
  refused_answers s GoesOn alive = refl
  refused_answers s Ended alive = refl
  refused_answers s OutOfMemory alive = ([], refl)
  refused_answers s Spent alive = absurd (alive refl)

  refused_goes : (w : Progress) (p : PassView Command Reply G) → IsSound lawful setup p → (w ≡ Spent → ⊥) → PassGoes lawful setup w p p []
  refused_goes GoesOn p h alive = extended_none lawful setup p h
  refused_goes Ended p h alive = extended_none lawful setup p h
  refused_goes OutOfMemory p h alive = extended_none lawful setup p h
  refused_goes Spent p h alive = absurd (alive refl)

  -- a message is refused, and nothing done
  pub refused_done : (s : Setting) (p : PassView Command Reply G) (items : List (Item CallEnd)) (w : Progress) (a b : Step) → IsSound lawful setup p → AddsItems w items a b → b.halted ≡ a.halted → (w ≡ Spent → ⊥)
      → DoesMessage lawful setup s p p [] items w a b
  refused_done s p items w a b h told halted alive = record {
    did = [];
    calls = refused_goes w p h alive;
    sound = h;
    answers = refused_answers s w alive;
    plain = refl;
    told = told;
    halted = halted ∙ sym (or_false a.halted);
  }
