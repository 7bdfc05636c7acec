-- What every lawful history has: sessions have lower numbers than the events to come.
use Rattle.std.proofs.Common.{◌≡◌, ℕ, ◌<◌, ◌≤◌, Bool, true, false, List, [], ◌∷◌, ◌++◌, Some, None, Option, refl, sym, ap, ◌∙◌, arith, length, inl, inr}
use Rattle.std.specs.Prelude.{◌||◌, ◌&&◌, not, nat_eq, nat_lt, nat_le, option_map, cond}
use Rattle.std.specs.List.{list_all, list_any}
use Rattle.std.proofs.lemmas.Bool.Decides.{nat_tests}
use Rattle.std.proofs.lemmas.List.Folds.{list_all-append, list_any-append}
use Rattle.table_model.specs.declared.command.Command.{Command}
use Rattle.table_model.specs.declared.command.Command.TheVariants.{Begin, SetParams, Announce}
use Rattle.table_model.specs.declared.command.Config.{Config}
use Rattle.table_model.specs.declared.reply.Reply.{Reply}
use Rattle.table_model.specs.declared.reply.Reply.TheVariants as reply
use Rattle.table_model.specs.Event.{Event, events, is_began, is_params_set, is_announced, is_left, is_no_memory}
use Rattle.table_model.specs.Sessions.{live, is_live, params_of, leaving_session, without, asked_by}
use Rattle.table_model.specs.Election.{Announcement, announcements, announcement, top_id, winner, primary, other_than}
use Rattle.std.specs.List.{cons_option}
use Rattle.table_model.proofs.ElectionLemmas.{winner_top, winner_other, if_live}
use Rattle.table_model.specs.Reply.{reply_to, is_stoppable, is_halted, is_gone, caller, answer}
use Rattle.table_model.specs.Legal.{Legal, IsAnswer, IsLawful, is_well_formed}
use Rattle.table_model.proofs.Tests.{and_left, and_right, and_both, all_weaken, all_filter}

lawful_step : (config : Config) (e : Event) (recorded : List Event) → IsAnswer config (events recorded) e → is_well_formed e.command ≡ true → IsLawful config (events recorded) → IsLawful config (events (e ∷ recorded))
unfolding events
lawful_step config e recorded (inl told) formed rest = kept (is_no_memory e.reply)
  where
    kept : (b : Bool) → IsLawful config (cond b (events recorded) (e ∷ events recorded))
    kept true = rest
    kept false = (told, rest, formed)
lawful_step config e recorded (inr lacked) formed rest = rw lacked.0 rest

-- the events of a lawful record
pub lawful_events : (config : Config) (recorded : List Event) → Legal config recorded → IsLawful config (events recorded)
unfolding events
lawful_events config [] legal = tt
lawful_events config (e ∷ recorded) legal = lawful_step config e recorded legal.0 legal.2 (lawful_events config recorded legal.1)

abbrev pub below : ℕ → ℕ → Bool
below n session = nat_lt session n

-- live sessions are below the count of events
pub live_below : (past : List Event) → list_all (below (length past)) (live past) ≡ true
unfolding live
live_below [] = refl
live_below (e ∷ past) = grown (is_began e.reply) (is_left e.reply) (leaving_session e.command) (all_weaken (below (length past)) (below (length (e ∷ past))) (live past) (λ s h. grind (arith, nat_tests)) (live_below past))
  where
    grown : (b l : Bool) (who : Option ℕ) → list_all (below (length (e ∷ past))) (live past) ≡ true → list_all (below (length (e ∷ past))) (cond b (live past ++ length past ∷ []) (cond l (without who (live past)) (live past))) ≡ true
    grown true l who h = list_all-append (below (length (e ∷ past))) (live past) (length past ∷ []) ∙ and_both (list_all (below (length (e ∷ past))) (live past)) (below (length (e ∷ past)) (length past) && true) h (and_both (below (length (e ∷ past)) (length past)) true (grind (arith, nat_tests)) refl)
    grown false true None h = h
    grown false true (Some session) h = all_filter (below (length (e ∷ past))) (λ other. not (nat_eq other session)) (live past) h
    grown false false who h = h

abbrev pub is_refused : Reply → Bool
is_refused reply.Stopped = true
is_refused reply.Gone = true
is_refused _ = false

not_false : (b : Bool) → not b ≡ false → b ≡ true
not_false true h = refl
not_false false h = cc

answered : (stopped gone : Bool) (r : Reply) → is_refused (cond stopped reply.Stopped (cond gone reply.Gone r)) ≡ false → gone ≡ false
answered true gone r h = cc
answered false true r h = cc
answered false false r h = refl

-- who is answered otherwise than Stopped or Gone is live
pub answered_live : (config : Config) (past : List Event) (command : Command) (session : ℕ) → caller command ≡ Some session → is_refused (reply_to config past command) ≡ false → is_live past session ≡ true
unfolding reply_to
answered_live config past command session called h =
    let here = answered (is_stoppable command && is_halted past) (is_gone past command) (answer config past command) h in
    not_false (is_live past session) (rw called at here)

set_not_refused : (r : Reply) → is_params_set r ≡ true → is_refused r ≡ false
set_not_refused reply.Stopped h = cc
set_not_refused reply.Gone h = cc
set_not_refused _ h = refl

announced_not_refused : (r : Reply) → is_announced r ≡ true → is_refused r ≡ false
announced_not_refused reply.Stopped h = cc
announced_not_refused reply.Gone h = cc
announced_not_refused _ h = refl

low_here : (b : Bool) (n s session : ℕ) (rest : Bool) → nat_eq s session ≡ b → nat_lt s n ≡ true → (nat_eq s session || rest) ≡ true → (rest ≡ true → session < n) → session < n
low_here true n s session rest same low any next = grind (arith, nat_tests)
low_here false n s session rest differ low any next = next (rw differ at any)

low_of : (n session : ℕ) (sessions : List ℕ) → list_all (below n) sessions ≡ true → list_any (λ other. nat_eq other session) sessions ≡ true → session < n
low_of n session [] all any = cc
low_of n session (s ∷ sessions) all any =
    low_here (nat_eq s session) n s session (list_any (λ other. nat_eq other session) sessions) refl (and_left (below n s) (list_all (below n) sessions) all) any
    (low_of n session sessions (and_right (below n s) (list_all (below n) sessions) all))

-- a live session is below the count
pub is_live_below : (past : List Event) (session : ℕ) → is_live past session ≡ true → session < length past
is_live_below past session h = low_of (length past) session (live past) (live_below past) h

module _ (config : Config) where
  asked_none : (e : Event) (past : List Event) (session : ℕ) → e.reply ≡ reply_to config past e.command → length past ≤ session → (set : Bool) → is_params_set e.reply ≡ set → cond set (asked_by session e.command) None ≡ None
  asked_none e past session told high false h = refl
  asked_none e past session told high true h = by_command e.command refl
    where
      live_of : (asker : ℕ) → caller e.command ≡ Some asker → asker < length past
      live_of asker called = is_live_below past asker (answered_live config past e.command asker called (ap is_refused (sym told) ∙ set_not_refused e.reply h))

      by_command : (command : Command) → e.command ≡ command → asked_by session command ≡ None
      by_command (SetParams asker asked) is = let low : asker < length past = live_of asker (ap caller is) in grind (arith, nat_tests)
      by_command _ is = refl

  -- a session to come has no parameters
  pub params_to_come : (past : List Event) (session : ℕ) → IsLawful config past → length past ≤ session → params_of past session ≡ None
  unfolding params_of
  params_to_come [] session lawful high = refl
  params_to_come (e ∷ past) session lawful high =
      let first = asked_none e past session lawful.0 (omega arith) (is_params_set e.reply) refl in
      rw first (params_to_come past session lawful.1 (omega arith))

announced_live : (config : Config) (e : Event) (past : List Event) (a : Announcement) → e.reply ≡ reply_to config past e.command → is_announced e.reply ≡ true → announcement e.command ≡ Some a → a.session < length past
announced_live config e past a told h made = is_live_below past a.session (answered_live config past e.command a.session (by_command e.command made) (ap is_refused (sym told) ∙ announced_not_refused e.reply h))
  where
    by_command : (command : Command) → announcement command ≡ Some a → caller command ≡ Some a.session
    by_command (Announce session id) is = ap (λ o. option_map (λ (b : Announcement). b.session) o) is
    by_command _ is = cc

-- those who announced are below the count
pub announced_below : (config : Config) (past : List Event) → IsLawful config past → list_all (λ a. below (length past) a.session) (announcements past) ≡ true
unfolding announcements
announced_below config [] lawful = refl
announced_below config (e ∷ past) lawful = grown (is_announced e.reply) (announcement e.command) refl refl (all_weaken (λ a. below (length past) a.session) (λ a. below (length (e ∷ past)) a.session) (announcements past) (λ a h. grind (arith, nat_tests)) (announced_below config past lawful.1))
  where
    grown : (b : Bool) (o : Option Announcement) → is_announced e.reply ≡ b → announcement e.command ≡ o → list_all (λ a. below (length (e ∷ past)) a.session) (announcements past) ≡ true → list_all (λ a. below (length (e ∷ past)) a.session) (cons_option (cond b o None) (announcements past)) ≡ true
    grown false o h is rest = rest
    grown true None h is rest = rest
    grown true (Some a) h is rest =
        let low : a.session < length past = announced_live config e past a lawful.0 h is in
        and_both (below (length (e ∷ past)) a.session) (list_all (λ x. below (length (e ∷ past)) x.session) (announcements past)) (grind (arith, nat_tests)) rest

-- so the winner is
abbrev pub is_won_below : ℕ → Option ℕ → Bool
is_won_below n None = true
is_won_below n (Some session) = below n session

pub winner_below : (n : ℕ) (made : List Announcement) → list_all (λ a. below n a.session) made ≡ true → is_won_below n (winner made) ≡ true
winner_below n [] h = refl
winner_below n (a ∷ made) h = won (nat_le (top_id made) a.id) refl (winner_below n made (and_right (below n a.session) (list_all (λ x. below n x.session) made) h))
  where
    less : (won : Option ℕ) → is_won_below n won ≡ true → is_won_below n (other_than a.session won) ≡ true
    less None k = refl
    less (Some other) k = elim (nat_eq a.session other) as (λ b. is_won_below n (cond b None (Some other)) ≡ true) [ true ↦ refl | false ↦ k ]

    won : (b : Bool) → nat_le (top_id made) a.id ≡ b → is_won_below n (winner made) ≡ true → is_won_below n (winner (a ∷ made)) ≡ true
    won true k rest = rw (winner_top a made k) (and_left (below n a.session) (list_all (λ x. below n x.session) made) h)
    won false k rest = rw (winner_other a made k) (less (winner made) rest)

-- the events that answer a Begin: the election stays
pub began_live : (session : ℕ) (past : List Event) (told : ℕ) → is_live (record { command = Begin; reply = reply.Began told } ∷ past) session ≡ is_live past session || (nat_eq (length past) session || false)
unfolding live
began_live session past told = list_any-append (λ other. nat_eq other session) (live past) (length past ∷ [])

pub began_primary : (config : Config) (past : List Event) (told : ℕ) → IsLawful config past → primary (record { command = Begin; reply = reply.Began told } ∷ past) ≡ primary past
unfolding primary announcements
began_primary config past told lawful = same (winner (announcements past)) (winner_below (length past) (announcements past) (announced_below config past lawful))
  where
    same : (won : Option ℕ) → is_won_below (length past) won ≡ true → if_live (record { command = Begin; reply = reply.Began told } ∷ past) won ≡ if_live past won
    same None h = refl
    same (Some session) h =
        let apart : nat_eq (length past) session ≡ false = grind (arith, nat_tests) in
        rw (began_live session past told, apart) (elim (is_live past session) as (λ b. cond (b || false) (Some session) None ≡ cond b (Some session) None) [ true ↦ refl | false ↦ refl ])
