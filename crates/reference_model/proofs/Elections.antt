-- What one more event announces.
use Rattle.std.proofs.Common.{◌≡◌, ◌≤◌, List, [], ◌∷◌, Option, Some, true, false, length, drop, get_or, Result, IfOk, subst, ap, ◌∙◌, sym, refl, arith}
use Rattle.std.specs.Prelude.{nat_le, option_map}
use Rattle.std.specs.List.{cons_option, list_all}
use Rattle.table_model.specs.Event.{Event}
use Rattle.table_model.specs.Election.{Announcement, Latest, latest_top, announced, announcements}

pub one_more : (e : Event) (past : List Event) (first : Option Announcement) (made : List Announcement) → first ≡ announced e → made ≡ announcements past → cons_option first made ≡ announcements (e ∷ past)
unfolding announcements
one_more e past first made here before = ap (λ x. cons_option x made) here ∙ ap (cons_option (announced e)) before

-- a list of at least one element, by its first
pub first_and_rest : {X : Type 0} (xs : List X) (x : X) → 1 ≤ length xs → x ≡ get_or xs 0 x → xs ≡ x ∷ drop 1 xs
first_and_rest [] x some is = absurd (omega arith)
first_and_rest (y ∷ xs) x some is = ap (λ z. z ∷ xs) (sym is)

pub top_first : (a : Announcement) (earlier : List Announcement) → list_all (λ b. nat_le b.id a.id) earlier ≡ true → latest_top (a ∷ earlier) ≡ Some (record { top = a; later = [] })
top_first a earlier all = rw all refl

pub top_later : (a : Announcement) (earlier : List Announcement) → list_all (λ b. nat_le b.id a.id) earlier ≡ false → latest_top (a ∷ earlier) ≡ option_map (λ (latest : Latest). record { top = latest.top; later = a ∷ latest.later }) (latest_top earlier)
top_later a earlier all = rw all refl

pub under_ok : {X E : Type 0} (r : Result X E) (x y : X) → x ≡ y → IfOk r (λ v. v ≡ x) → IfOk r (λ v. v ≡ y)
under_ok {X} r x y same = subst (λ (z : X). IfOk r (λ v. v ≡ z)) same

pub later_is : (a : Announcement) (earlier : List Announcement) (latest : Option Latest) → latest ≡ latest_top earlier → list_all (λ b. nat_le b.id a.id) earlier ≡ false → option_map (λ (l : Latest). record { top = l.top; later = a ∷ l.later }) latest ≡ latest_top (a ∷ earlier)
later_is a earlier latest same all = ap (option_map (λ (l : Latest). record { top = l.top; later = a ∷ l.later })) same ∙ sym (top_later a earlier all)
