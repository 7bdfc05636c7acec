-- A table that is closed, and the status that is told of it.
use Rattle.std.proofs.Common.{◌≡◌, ℕ, ◌<◌, Bool, true, false, List, ◌++◌, length, drop, Option, refl, sym, ap, ◌∙◌, subst, inl, inr, arith}
use Rattle.std.specs.Prelude.{◌⊎◌, map, slice_index_or, if◌then◌else◌}
use Rattle.std.specs.List.{list_any}
use Rattle.std.proofs.lemmas.List.{length-map}
use Rattle.std.proofs.lemmas.List.Folds.{list_any_at}
use Rattle.std.proofs.Math.Seq.{drop-append_seam}
use Rattle.h2_exchange.proofs.Places.{clash}
use Rattle.rig_io.specs.Link.{Piece}
use Rattle.table_model.specs.declared.command.Command.{Command}
use Rattle.table_model.specs.declared.command.Command.TheVariants as command
use Rattle.table_model.specs.declared.command.Config.{Config}
use Rattle.table_model.specs.declared.reply.Reply.{Reply}
use Rattle.table_model.specs.Event.{Event}
use Rattle.table_model.specs.Jobs.{fib}
use Rattle.table_model.specs.Rib.{rib}
use Rattle.table_lock.specs.Passes.{LockView, PassView}
use Rattle.rib_core.specs.Recorded.{IsLawful}
use Rattle.call_answers.specs.declared.orders.Setting.{Setting}
use Rattle.link_serving.specs.Serving.{Links, Start}
use Rattle.link_serving.specs.Beside.{HasServed}
use Rattle.table_workers.specs.Working.{Calls}
use Rattle.gribi_serve.specs.Links.{IsServed}
use Rattle.serve_command.specs.Line.{counts_line, line_of}
use Rattle.serve_command.specs.Served.{Around, HasPrinted, Serves, around}

-- ---- serving

module _ {L : Type 0} (pieces : L → Option (List Piece)) (faults : L → ℕ) where
  -- what was served over the lock and the setting of these names
  pub served_by : (lock named : LockView Config) (setting setting' : Setting) (start : Start Command Reply Config L) (root : PassView Command Reply Config)
      (links : Links L) (short spent : Bool) → lock ≡ named → setting ≡ setting' → spent ≡ false
      → HasServed IsLawful lock.setup (IsServed pieces faults named.setup setting') command.Halt start root links short spent
      → HasServed IsLawful lock.setup (IsServed pieces faults lock.setup setting) command.Halt start root links short false
  served_by lock named setting setting' start root links short spent is is' none h =
      subst (λ (b : Bool). HasServed IsLawful lock.setup (IsServed pieces faults lock.setup setting) command.Halt start root links short b) none
      (subst (λ (s : Setting). HasServed IsLawful lock.setup (IsServed pieces faults lock.setup s) command.Halt start root links short spent) (sym is')
      (subst (λ (l : LockView Config). HasServed IsLawful lock.setup (IsServed pieces faults l.setup setting') command.Halt start root links short spent) (sym is) h))

module _ {W D : Type 0} (f : W → D) where
  -- the devices that are left are those behind the first
  pub others_are : (ws : List W) (all ds : List D) (n : ℕ) → all ≡ map f ws ++ ds → length ws ≡ n → ds ≡ drop n all
  others_are ws all ds n is size =
      sym (drop-append_seam (map f ws) ds) ∙ (ap (λ (k : ℕ). drop k (map f ws ++ ds)) (length-map ws f ∙ size) ∙ ap (drop n) (sym is))

  pub brought : (ws : List W) (all ds : List D) (n : ℕ) → all ≡ map f ws ++ ds → length ws ≡ n → all ≡ map f ws ++ drop n all
  brought ws all ds n is size = is ∙ ap (λ (l : List D). map f ws ++ l) (others_are ws all ds n is size)

module _ {W : Type 0} (is_spent : W → Bool) where
  pub none_spent : (ws : List W) → list_any is_spent ws ≡ false → (i : ℕ) (d : W) → i < length ws → is_spent (slice_index_or ws i d) ≡ false
  none_spent ws none i d lt = by (is_spent (slice_index_or ws i d)) refl
    where
      by : (b : Bool) → is_spent (slice_index_or ws i d) ≡ b → is_spent (slice_index_or ws i d) ≡ false
      by true is = absurd (clash (list_any is_spent ws) (list_any_at is_spent ws i d lt is) none)
      by false is = is

-- ---- the line

pub line_is : (past : List Event) (entries installed count : ℕ) → entries ≡ length (rib past) → installed ≡ length (fib past) → count ≡ length past
    → counts_line entries installed count ≡ line_of past
line_is past entries installed count e i v =
    ap (λ (k : ℕ). counts_line k installed count) e
    ∙ (ap (λ (k : ℕ). counts_line (length (rib past)) k count) i ∙ ap (λ (k : ℕ). counts_line (length (rib past)) (length (fib past)) k) v)

-- ---- the status

pub stays_true : (answer : Bool) (before now : ℕ) → answer ≡ true → (answer ≡ false) ⊎ (now ≡ before) → now ≡ before
stays_true answer before now is (inl other) = absurd (clash answer is other)
stays_true answer before now is (inr same) = same

module _ {A L D : Type 0} (gave took : A → ℕ) (given retired : A → Option (List L)) (faults : A → ℕ) where
  -- an acceptor that gave and took back what another did
  pub around_same : (a b : A) (devices : List D) → gave a ≡ gave b → took a ≡ took b → given a ≡ given b → retired a ≡ retired b → faults a ≡ faults b
      → around gave took given retired faults a devices ≡ around gave took given retired faults b devices
  around_same a b devices g t s r f =
      ap (λ (k : ℕ). (let o : Around L D = record { links = record { gave = k; took = took a; given = given a; retired = retired a }; faults = faults a; devices = devices } in o)) g
      ∙ (ap (λ (k : ℕ). (let o : Around L D = record { links = record { gave = gave b; took = k; given = given a; retired = retired a }; faults = faults a; devices = devices } in o)) t
      ∙ (ap (λ (l : Option (List L)). (let o : Around L D = record { links = record { gave = gave b; took = took b; given = l; retired = retired a }; faults = faults a; devices = devices } in o)) s
      ∙ (ap (λ (l : Option (List L)). (let o : Around L D = record { links = record { gave = gave b; took = took b; given = given b; retired = l }; faults = faults a; devices = devices } in o)) r
      ∙ ap (λ (k : ℕ). (let o : Around L D = record { links = record { gave = gave b; took = took b; given = given b; retired = retired b }; faults = k; devices = devices } in o)) f)))

module _ {L D : Type 0} (closes : Bool → Bool → Calls → Type 0) (before after : Around L D) (written written' : Option (List ℕ)) where
  -- what is told of a run whose line was printed
  pub told : (short failed : Bool) (status : ℕ) → status ≡ (if short then 6 else if failed then 8 else 0)
      → HasPrinted closes written written' short failed → Serves closes before after written written' status
  told true failed status is p = record {
    is_status = inr (inr (inl is));
    served = λ z. absurd (omega (arith, z, is));
    cut = λ z. absurd (omega (arith, z, is));
    short = λ z. inl (failed, p);
    failed = λ z. absurd (omega (arith, z, is));
    spent = λ z. absurd (omega (arith, z, is));
  }
  told false true status is p = record {
    is_status = inr (inr (inr (inl is)));
    served = λ z. absurd (omega (arith, z, is));
    cut = λ z. absurd (omega (arith, z, is));
    short = λ z. absurd (omega (arith, z, is));
    failed = λ z. inl p;
    spent = λ z. absurd (omega (arith, z, is));
  }
  told false false status is p = record {
    is_status = inl is;
    served = λ z. p;
    cut = λ z. absurd (omega (arith, z, is));
    short = λ z. absurd (omega (arith, z, is));
    failed = λ z. absurd (omega (arith, z, is));
    spent = λ z. absurd (omega (arith, z, is));
  }
