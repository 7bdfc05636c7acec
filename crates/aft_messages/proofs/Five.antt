-- A message of five fields.
use Rattle.std.proofs.Common.{◌≡◌, ℕ, ◌==◌, ◌||◌, not, Bool, true, false, List, [], ◌∷◌, ◌++◌, refl, sym}
use Rattle.std.specs.List.{list_any}
use Rattle.std.proofs.lemmas.Bool.{false≢true, and_parts}
use Rattle.std.proofs.lemmas.List.{append-nil}
use Rattle.std.proofs.lemmas.List.Elements.{filter_map-append}
use Rattle.proto_wire.specs.Written.{WrittenField, IsLegal, encoded_fields}
use Rattle.schema_numbers.specs.Numbers.{Numbers}
use Rattle.schema_numbers.specs.Valid.{are_distinct}
use Rattle.proto_schema.specs.declared.schema.MessageKind.{MessageKind}
use Rattle.proto_schema.specs.declared.schema.FieldKind.{FieldKind}
use Rattle.proto_schema.specs.Schema.{fields_of, kind_of}
use Rattle.proto_schema.specs.FieldValues.{piece_in}
use Rattle.aft_messages.proofs.Parts.{Each, each_append, no, val, bits, Clean, Good, clean}
use Rattle.aft_messages.proofs.FieldGroups.{same, differs, InBunch, bunch_legal, bunch_good, no_bits}

-- a number is none of these
abbrev pub NoneOf : ℕ → List ℕ → Type 0
NoneOf a ns = Each (λ m. (m == a) ≡ false) ns

none_of : (a : ℕ) (ns : List ℕ) → list_any (λ m. m == a) ns ≡ false → NoneOf a ns
none_of a [] h = tt
none_of a (m ∷ ns) h = let both = parts (m == a) (list_any (λ k. k == a) ns) h in (both.0, none_of a ns both.1)
  where
    parts : (x y : Bool) → (x || y) ≡ false → (x ≡ false) × (y ≡ false)
    parts true y h = absurd (false≢true (sym h))
    parts false y h = (refl, h)

not_true : (x : Bool) → not x ≡ true → x ≡ false
not_true true h = absurd (false≢true h)
not_true false h = refl

head_apart : (a : ℕ) (ns : List ℕ) → are_distinct (a ∷ ns) ≡ true → NoneOf a ns
head_apart a ns h = none_of a ns (not_true (list_any (λ m. m == a) ns) (and_parts (not (list_any (λ m. m == a) ns)) (are_distinct ns) h).0)

tail_apart : (a : ℕ) (ns : List ℕ) → are_distinct (a ∷ ns) ≡ true → are_distinct ns ≡ true
tail_apart a ns h = (and_parts (not (list_any (λ m. m == a) ns)) (are_distinct ns) h).1

first_apart : (a m : ℕ) (ns : List ℕ) → NoneOf a (m ∷ ns) → (m == a) ≡ false
first_apart a m ns h = h.0

next_apart : (a m : ℕ) (ns : List ℕ) → NoneOf a (m ∷ ns) → NoneOf a ns
next_apart a m ns h = h.1

-- five numbers, any two of them distinct
pub record Apart (a b c d e : ℕ) : Type 0 where
  pub ba : (b == a) ≡ false
  pub ca : (c == a) ≡ false
  pub da : (d == a) ≡ false
  pub ea : (e == a) ≡ false
  pub cb : (c == b) ≡ false
  pub db : (d == b) ≡ false
  pub eb : (e == b) ≡ false
  pub dc : (d == c) ≡ false
  pub ec : (e == c) ≡ false
  pub ed : (e == d) ≡ false

pub apart : (a b c d e : ℕ) → are_distinct (a ∷ b ∷ c ∷ d ∷ e ∷ []) ≡ true → Apart a b c d e
apart a b c d e h0 =
    let na : NoneOf a (b ∷ c ∷ d ∷ e ∷ []) = head_apart a (b ∷ c ∷ d ∷ e ∷ []) h0 in
    let nab : NoneOf a (c ∷ d ∷ e ∷ []) = next_apart a b (c ∷ d ∷ e ∷ []) na in
    let nac : NoneOf a (d ∷ e ∷ []) = next_apart a c (d ∷ e ∷ []) nab in
    let nad : NoneOf a (e ∷ []) = next_apart a d (e ∷ []) nac in
    let h1 : are_distinct (b ∷ c ∷ d ∷ e ∷ []) ≡ true = tail_apart a (b ∷ c ∷ d ∷ e ∷ []) h0 in
    let nb : NoneOf b (c ∷ d ∷ e ∷ []) = head_apart b (c ∷ d ∷ e ∷ []) h1 in
    let nbc : NoneOf b (d ∷ e ∷ []) = next_apart b c (d ∷ e ∷ []) nb in
    let nbd : NoneOf b (e ∷ []) = next_apart b d (e ∷ []) nbc in
    let h2 : are_distinct (c ∷ d ∷ e ∷ []) ≡ true = tail_apart b (c ∷ d ∷ e ∷ []) h1 in
    let nc : NoneOf c (d ∷ e ∷ []) = head_apart c (d ∷ e ∷ []) h2 in
    let ncd : NoneOf c (e ∷ []) = next_apart c d (e ∷ []) nc in
    let h3 : are_distinct (d ∷ e ∷ []) ≡ true = tail_apart c (d ∷ e ∷ []) h2 in
    let nd : NoneOf d (e ∷ []) = head_apart d (e ∷ []) h3 in
    record {
      ba = first_apart a b (c ∷ d ∷ e ∷ []) na;
      ca = first_apart a c (d ∷ e ∷ []) nab;
      da = first_apart a d (e ∷ []) nac;
      ea = first_apart a e ([]) nad;
      cb = first_apart b c (d ∷ e ∷ []) nb;
      db = first_apart b d (e ∷ []) nbc;
      eb = first_apart b e ([]) nbd;
      dc = first_apart c d (e ∷ []) nc;
      ec = first_apart c e ([]) ncd;
      ed = first_apart d e ([]) nd;
    }

pub record FiveFields (n : Numbers) (m : MessageKind) (a b c d e : ℕ) (ka kb kc kd ke : FieldKind) (xa xb xc xd xe : List WrittenField) : Type 0 where
  pub rows : fields_of n m ≡ (a, ka) ∷ (b, kb) ∷ (c, kc) ∷ (d, kd) ∷ (e, ke) ∷ []
  pub two : Apart a b c d e
  pub each_a : Each (InBunch n ka a) xa
  pub each_b : Each (InBunch n kb b) xb
  pub each_c : Each (InBunch n kc c) xc
  pub each_d : Each (InBunch n kd d) xd
  pub each_e : Each (InBunch n ke e) xe

kind_a : {n : Numbers} {m : MessageKind} {a b c d e : ℕ} {ka kb kc kd ke : FieldKind} {xa xb xc xd xe : List WrittenField} → FiveFields n m a b c d e ka kb kc kd ke xa xb xc xd xe → kind_of n m a ≡ ka
unfolding kind_of
kind_a {n} {m} {a} {b} {c} {d} {e} {ka} {kb} {kc} {kd} {ke} {xa} {xb} {xc} {xd} {xe} f = rw (f.rows, same a) refl

kind_b : {n : Numbers} {m : MessageKind} {a b c d e : ℕ} {ka kb kc kd ke : FieldKind} {xa xb xc xd xe : List WrittenField} → FiveFields n m a b c d e ka kb kc kd ke xa xb xc xd xe → kind_of n m b ≡ kb
unfolding kind_of
kind_b {n} {m} {a} {b} {c} {d} {e} {ka} {kb} {kc} {kd} {ke} {xa} {xb} {xc} {xd} {xe} f = rw (f.rows, f.two.ba, same b) refl

kind_c : {n : Numbers} {m : MessageKind} {a b c d e : ℕ} {ka kb kc kd ke : FieldKind} {xa xb xc xd xe : List WrittenField} → FiveFields n m a b c d e ka kb kc kd ke xa xb xc xd xe → kind_of n m c ≡ kc
unfolding kind_of
kind_c {n} {m} {a} {b} {c} {d} {e} {ka} {kb} {kc} {kd} {ke} {xa} {xb} {xc} {xd} {xe} f = rw (f.rows, f.two.ca, f.two.cb, same c) refl

kind_d : {n : Numbers} {m : MessageKind} {a b c d e : ℕ} {ka kb kc kd ke : FieldKind} {xa xb xc xd xe : List WrittenField} → FiveFields n m a b c d e ka kb kc kd ke xa xb xc xd xe → kind_of n m d ≡ kd
unfolding kind_of
kind_d {n} {m} {a} {b} {c} {d} {e} {ka} {kb} {kc} {kd} {ke} {xa} {xb} {xc} {xd} {xe} f = rw (f.rows, f.two.da, f.two.db, f.two.dc, same d) refl

kind_e : {n : Numbers} {m : MessageKind} {a b c d e : ℕ} {ka kb kc kd ke : FieldKind} {xa xb xc xd xe : List WrittenField} → FiveFields n m a b c d e ka kb kc kd ke xa xb xc xd xe → kind_of n m e ≡ ke
unfolding kind_of
kind_e {n} {m} {a} {b} {c} {d} {e} {ka} {kb} {kc} {kd} {ke} {xa} {xb} {xc} {xd} {xe} f = rw (f.rows, f.two.ea, f.two.eb, f.two.ec, f.two.ed, same e) refl

pub five_legal : {n : Numbers} {m : MessageKind} {a b c d e : ℕ} {ka kb kc kd ke : FieldKind} {xa xb xc xd xe : List WrittenField} → FiveFields n m a b c d e ka kb kc kd ke xa xb xc xd xe → Each IsLegal ((((xa ++ xb) ++ xc) ++ xd) ++ xe)
five_legal {n} {m} {a} {b} {c} {d} {e} {ka} {kb} {kc} {kd} {ke} {xa} {xb} {xc} {xd} {xe} f =
    each_append IsLegal (((xa ++ xb) ++ xc) ++ xd) xe (each_append IsLegal ((xa ++ xb) ++ xc) xd (each_append IsLegal (xa ++ xb) xc (each_append IsLegal xa xb (bunch_legal n ka a xa f.each_a) (bunch_legal n kb b xb f.each_b)) (bunch_legal n kc c xc f.each_c)) (bunch_legal n kd d xd f.each_d)) (bunch_legal n ke e xe f.each_e)

pub five_clean : {n : Numbers} {m : MessageKind} {a b c d e : ℕ} {ka kb kc kd ke : FieldKind} {xa xb xc xd xe : List WrittenField} → FiveFields n m a b c d e ka kb kc kd ke xa xb xc xd xe → Clean n m (encoded_fields ((((xa ++ xb) ++ xc) ++ xd) ++ xe))
five_clean {n} {m} {a} {b} {c} {d} {e} {ka} {kb} {kc} {kd} {ke} {xa} {xb} {xc} {xd} {xe} f =
    clean n m ((((xa ++ xb) ++ xc) ++ xd) ++ xe) (five_legal f)
    (each_append (λ p. Good n (kind_of n m (no p)) p) (((xa ++ xb) ++ xc) ++ xd) xe (each_append (λ p. Good n (kind_of n m (no p)) p) ((xa ++ xb) ++ xc) xd (each_append (λ p. Good n (kind_of n m (no p)) p) (xa ++ xb) xc (each_append (λ p. Good n (kind_of n m (no p)) p) xa xb (bunch_good n m ka a xa (kind_a f) f.each_a) (bunch_good n m kb b xb (kind_b f) f.each_b)) (bunch_good n m kc c xc (kind_c f) f.each_c)) (bunch_good n m kd d xd (kind_d f) f.each_d)) (bunch_good n m ke e xe (kind_e f) f.each_e))

pub five_a : {n : Numbers} {m : MessageKind} {a b c d e : ℕ} {ka kb kc kd ke : FieldKind} {xa xb xc xd xe : List WrittenField} → FiveFields n m a b c d e ka kb kc kd ke xa xb xc xd xe → bits a ((((xa ++ xb) ++ xc) ++ xd) ++ xe) ≡ bits a xa
five_a {n} {m} {a} {b} {c} {d} {e} {ka} {kb} {kc} {kd} {ke} {xa} {xb} {xc} {xd} {xe} f =
    rw (filter_map-append (λ p. piece_in a (no p) (val p)) (((xa ++ xb) ++ xc) ++ xd) xe, filter_map-append (λ p. piece_in a (no p) (val p)) ((xa ++ xb) ++ xc) xd, filter_map-append (λ p. piece_in a (no p) (val p)) (xa ++ xb) xc, filter_map-append (λ p. piece_in a (no p) (val p)) xa xb, no_bits n kb b a xb f.each_b (f.two.ba), no_bits n kc c a xc f.each_c (f.two.ca), no_bits n kd d a xd f.each_d (f.two.da), no_bits n ke e a xe f.each_e (f.two.ea), append-nil (bits a xa), append-nil (bits a xa), append-nil (bits a xa), append-nil (bits a xa)) refl

pub five_b : {n : Numbers} {m : MessageKind} {a b c d e : ℕ} {ka kb kc kd ke : FieldKind} {xa xb xc xd xe : List WrittenField} → FiveFields n m a b c d e ka kb kc kd ke xa xb xc xd xe → bits b ((((xa ++ xb) ++ xc) ++ xd) ++ xe) ≡ bits b xb
five_b {n} {m} {a} {b} {c} {d} {e} {ka} {kb} {kc} {kd} {ke} {xa} {xb} {xc} {xd} {xe} f =
    rw (filter_map-append (λ p. piece_in b (no p) (val p)) (((xa ++ xb) ++ xc) ++ xd) xe, filter_map-append (λ p. piece_in b (no p) (val p)) ((xa ++ xb) ++ xc) xd, filter_map-append (λ p. piece_in b (no p) (val p)) (xa ++ xb) xc, filter_map-append (λ p. piece_in b (no p) (val p)) xa xb, no_bits n ka a b xa f.each_a (differs a b f.two.ba), no_bits n kc c b xc f.each_c (f.two.cb), no_bits n kd d b xd f.each_d (f.two.db), no_bits n ke e b xe f.each_e (f.two.eb), append-nil (bits b xb), append-nil (bits b xb), append-nil (bits b xb)) refl

pub five_c : {n : Numbers} {m : MessageKind} {a b c d e : ℕ} {ka kb kc kd ke : FieldKind} {xa xb xc xd xe : List WrittenField} → FiveFields n m a b c d e ka kb kc kd ke xa xb xc xd xe → bits c ((((xa ++ xb) ++ xc) ++ xd) ++ xe) ≡ bits c xc
five_c {n} {m} {a} {b} {c} {d} {e} {ka} {kb} {kc} {kd} {ke} {xa} {xb} {xc} {xd} {xe} f =
    rw (filter_map-append (λ p. piece_in c (no p) (val p)) (((xa ++ xb) ++ xc) ++ xd) xe, filter_map-append (λ p. piece_in c (no p) (val p)) ((xa ++ xb) ++ xc) xd, filter_map-append (λ p. piece_in c (no p) (val p)) (xa ++ xb) xc, filter_map-append (λ p. piece_in c (no p) (val p)) xa xb, no_bits n ka a c xa f.each_a (differs a c f.two.ca), no_bits n kb b c xb f.each_b (differs b c f.two.cb), no_bits n kd d c xd f.each_d (f.two.dc), no_bits n ke e c xe f.each_e (f.two.ec), append-nil (bits c xc), append-nil (bits c xc)) refl

pub five_d : {n : Numbers} {m : MessageKind} {a b c d e : ℕ} {ka kb kc kd ke : FieldKind} {xa xb xc xd xe : List WrittenField} → FiveFields n m a b c d e ka kb kc kd ke xa xb xc xd xe → bits d ((((xa ++ xb) ++ xc) ++ xd) ++ xe) ≡ bits d xd
five_d {n} {m} {a} {b} {c} {d} {e} {ka} {kb} {kc} {kd} {ke} {xa} {xb} {xc} {xd} {xe} f =
    rw (filter_map-append (λ p. piece_in d (no p) (val p)) (((xa ++ xb) ++ xc) ++ xd) xe, filter_map-append (λ p. piece_in d (no p) (val p)) ((xa ++ xb) ++ xc) xd, filter_map-append (λ p. piece_in d (no p) (val p)) (xa ++ xb) xc, filter_map-append (λ p. piece_in d (no p) (val p)) xa xb, no_bits n ka a d xa f.each_a (differs a d f.two.da), no_bits n kb b d xb f.each_b (differs b d f.two.db), no_bits n kc c d xc f.each_c (differs c d f.two.dc), no_bits n ke e d xe f.each_e (f.two.ed), append-nil (bits d xd)) refl

pub five_e : {n : Numbers} {m : MessageKind} {a b c d e : ℕ} {ka kb kc kd ke : FieldKind} {xa xb xc xd xe : List WrittenField} → FiveFields n m a b c d e ka kb kc kd ke xa xb xc xd xe → bits e ((((xa ++ xb) ++ xc) ++ xd) ++ xe) ≡ bits e xe
five_e {n} {m} {a} {b} {c} {d} {e} {ka} {kb} {kc} {kd} {ke} {xa} {xb} {xc} {xd} {xe} f =
    rw (filter_map-append (λ p. piece_in e (no p) (val p)) (((xa ++ xb) ++ xc) ++ xd) xe, filter_map-append (λ p. piece_in e (no p) (val p)) ((xa ++ xb) ++ xc) xd, filter_map-append (λ p. piece_in e (no p) (val p)) (xa ++ xb) xc, filter_map-append (λ p. piece_in e (no p) (val p)) xa xb, no_bits n ka a e xa f.each_a (differs a e f.two.ea), no_bits n kb b e xb f.each_b (differs b e f.two.eb), no_bits n kc c e xc f.each_c (differs c e f.two.ec), no_bits n kd d e xd f.each_d (differs d e f.two.ed)) refl
