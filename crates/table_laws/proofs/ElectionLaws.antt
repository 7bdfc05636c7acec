-- The election: the highest id, and who is the primary after an announcement.
use Rattle.std.proofs.Common.{◌≡◌, ℕ, ◌≤◌, Bool, true, false, List, Some, None, Option, refl, ap, ◌∙◌, arith}
use Rattle.std.specs.Prelude.{not, ◌==◌, nat_eq, max, cond, is_some}
use Rattle.std.specs.List.{cons_option}
use Rattle.std.proofs.lemmas.Bool.Decides.{nat_tests}
use Rattle.table_model.specs.declared.command.Command.TheVariants.{Announce}
use Rattle.table_model.specs.declared.command.Config.{Config}
use Rattle.table_model.specs.declared.reply.Reply.TheVariants as reply
use Rattle.table_model.specs.Election.{Announcement, announced, announcements, top_id, highest, primary, is_it, other_than}
use Rattle.table_model.specs.Event.{Event}
use Rattle.table_model.specs.Laws.{HighestNeverFalls, LatestIsPrimary, LowerIsNotPrimary}
use Rattle.table_model.specs.Reply.{reply_to, reply_announce, is_halted}
use Rattle.table_model.specs.Sessions.{is_live, params_of}
use Rattle.table_model.proofs.ElectionLemmas.{announced_top, announced_other}

one_more : (made : Option Announcement) (earlier : List Announcement) → top_id earlier ≤ top_id (cons_option made earlier)
one_more None earlier = omega arith
one_more (Some a) earlier = omega arith

pub never_falls : HighestNeverFalls
unfolding announcements
never_falls past e = one_more (announced e) (announcements past)

told_by : (halted live has_params zero_id : Bool) (told top : ℕ) → reply.Announced told ≡ cond halted reply.Stopped (cond (not live) reply.Gone (cond (not has_params) reply.NoParams (cond zero_id reply.ZeroId (reply.Announced top)))) → (live ≡ true) × (told ≡ top)
told_by true live has_params zero_id told top h = cc
told_by false false has_params zero_id told top h = cc
told_by false true false zero_id told top h = cc
told_by false true true true told top h = cc
told_by false true true false told top h = (refl, cc)

told_is : (config : Config) (past : List Event) (session id told : ℕ) → reply.Announced told ≡ reply_to config past (Announce session id) → (is_live past session ≡ true) × (told ≡ max id (highest past))
unfolding reply_to reply_announce
told_is config past session id told h = told_by (is_halted past) (is_live past session) (is_some (params_of past session)) (id == 0) told (max id (highest past)) h

pub latest : (config : Config) → LatestIsPrimary config
latest config past session id told lawful high =
    let here = told_is config past session id told lawful.0 in
    let top : told ≡ max id (highest past) = here.1 in
    (omega arith, announced_top session id told past here.0 (grind (arith, nat_tests)))

not_it : (session : ℕ) (won : Option ℕ) → is_it (other_than session won) session ≡ false
not_it session None = refl
not_it session (Some other) = by_same (nat_eq session other) refl
  where
    by_same : (b : Bool) → nat_eq session other ≡ b → is_it (cond b None (Some other)) session ≡ false
    by_same true h = refl
    by_same false h = grind (arith, nat_tests)

pub lower : (config : Config) → LowerIsNotPrimary config
lower config past session id told lawful low =
    ap (λ won. is_it won session) (announced_other session id told past (grind (arith, nat_tests))) ∙ not_it session (primary past)
