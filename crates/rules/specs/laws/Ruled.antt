-- The columns of a pool's rules, and that they are the rules of its bodies. Assumes nothing.
use Rattle.std.specs.Prelude.{ℕ, ◌*◌, ◌≤◌, ◌<◌, ◌≡◌, refl, Bool, true, false, cond, List, eqb}
use Rattle.std.proofs.Common.{sym, ◌∙◌, ap, arith, eqb-true}
use Rattle.expression.specs.declared.Role.{Role}
use Rattle.expression.specs.declared.Expression.{Expression}
use Rattle.expression.specs.declared.Expression.TheVariants as E
use Rattle.expression.specs.Same.{same}
use Rattle.expression.specs.laws.Same.{same-eq}
use Rattle.rt0.specs.declared.Pool.{Pool}
use Rattle.rt0.specs.laws.Pool.{body_at}
use Rattle.closure.specs.declared.Rules.{Rules}
use Rattle.closure.specs.laws.Rules.{el, bits, rules_of, Fits}
use Rattle.rules.specs.declared.Four.{Four}
use Rattle.word.specs.laws.Bools.{not-of}
use Rattle.word.specs.laws.Search.{any_to, any_to-here}
use Rattle.rules.specs.laws.Table.{row_of, row_for, third, fourth, Quad, Unnamed, Names, Row, entity, goal, role, linked, intersection, Compiled}
use Rattle.rules.specs.laws.Columns.{four_rows, first_row, is_linked, Column, head_row, body_first, four_at, PartsTo, Able, NamesTo, has_link}
use Rattle.rules.specs.laws.Column.{linked-kind, not-linked}

-- the columns of the rules of a pool
pub record Ruled (P : Pool) (X : Rules) : Type 0 where
  pub count : X.count ≡ P.count
  pub wide : P.count ≤ 64 * X.words
  pub words : X.words ≤ 2
  pub head : Column (head_row P) 128 130 P.count X.head
  pub part : PartsTo (row_of P) P P.count X.part
  pub first : Column (body_first P) 128 130 P.count X.first
  pub lit : Bool
  pub able : List ℕ
  pub links : Able P lit P.count X.src able
  pub names : NamesTo P able P.count X.named
  pub linked : any_to P.count (has_link P) ≡ true → lit ≡ true

-- a column of rows that names no row, or those of a link, is the rule of an expression
pub row-of : (P : Pool) (e : Expression) (X : Rules) (i : ℕ) (x : Expression) → four_at X.part i ≡ four_rows (row_for P e) x
    → el X.first i ≡ first_row (row_of P) x
    → ((a : Role) (m : ℕ) → x ≡ E.Linked a m → Names P X i m) → (is_linked x ≡ false → Unnamed X i) → Row P e X i x
row-of P e X i x four first names none = go x four first names none
  where
    quad : {r : Four} → four_at X.part i ≡ r → Quad X i r.a r.b r.c r.d
    quad q = record { p0 = ap (λ (r : Four). r.a) q; p1 = ap (λ (r : Four). r.b) q; p2 = ap (λ (r : Four). r.c) q; p3 = ap (λ (r : Four). r.d) q }

    go : (x : Expression) → four_at X.part i ≡ four_rows (row_for P e) x → el X.first i ≡ first_row (row_of P) x
        → ((a : Role) (m : ℕ) → x ≡ E.Linked a m → Names P X i m) → (is_linked x ≡ false → Unnamed X i) → Row P e X i x
    go (E.Entity b) q f n u = entity (quad q) (u refl)
    go (E.Role p) q f n u = role (quad q) (u refl)
    go (E.Linked a m) q f n u = linked (quad q) f (n a m refl)
    go (E.Intersection p) q f n u = intersection (quad q) (u refl)
    go (E.Goal m) q f n u = goal (quad q) (u refl)

-- equal links have equal names
pub linked-name : {a b : Role} {m n : ℕ} → E.Linked a m ≡ E.Linked b n → m ≡ n
linked-name e = cc

-- rules with other parts, where e is asked about
pub compiled-of : (P : Pool) → P.count ≤ 128 → (e : Expression) (X Y : Rules) → Ruled P X → Y.count ≡ X.count → Y.words ≤ 2 → Y.head ≡ X.head
    → Y.first ≡ X.first → Y.named ≡ X.named → Y.src ≡ X.src
    → PartsTo (row_for P e) P P.count Y.part → Compiled P e Y
compiled-of P small e X Y ruled qc qw qh qf qn qs parts =
    record {
      count = qc ∙ ruled.count;
      fits =
          record {
            count = rw (qc ∙ ruled.count) small;
            words = qw;
            head = rw qh ruled.head.under;
            part = parts.under;
            first = rw qf ruled.first.under;
            src = rw qs ruled.links.under;
          };
      head = λ i l. rw qh (ruled.head.upto i l);
      row = λ i l. row-of P e Y i (body_at P i) (parts.four i l) (rw qf (ruled.first.upto i l)) (λ a m q. named i l a m q) (λ n. unnamed i n);
    }
  where
    unnamed : (i : ℕ) → is_linked (body_at P i) ≡ false → Unnamed Y i
    unnamed i n =
        record {
          none = λ j. not-of (bits Y.named i j)
              (λ h. let r = ruled.names.says i j (rw qn at h) in not-linked (body_at P i) n r.0 r.1 r.3);
        }

    named : (i : ℕ) → i < P.count → (a : Role) (m : ℕ) → body_at P i ≡ E.Linked a m → Names P Y i m
    named i l a m q =
        let lit : ruled.lit ≡ true = ruled.linked (any_to-here P.count (has_link P) i l (linked-kind P i a m q)) in
        record {
          says = λ j h.
              let r = ruled.names.says i j (rw qn at h) in
              let s = ruled.links.says j r.5 in
              (r.4, r.6 ∙ linked-name (sym r.3 ∙ q), rw qs s.1, s.2);
          all = λ j k nm self b. rw qn (ruled.names.all i a m j l q k (ruled.links.all lit j k self b) nm);
        }

-- a role's row where e is asked about is its own, where e is no role that is no head
pub row_same : (P : Pool) (e : Expression) → ((p : Role) → E.Role p ≡ e → row_of P p ≡ 128 → ⊥) → (p : Role) → row_of P p ≡ row_for P e p
unfolding row_for
row_same P e h p = go (eqb (row_of P p) 128) refl (same (E.Role p) e) refl
  where
    go : (t : Bool) → eqb (row_of P p) 128 ≡ t → (u : Bool) → same (E.Role p) e ≡ u → row_of P p ≡ cond t (cond u 129 128) (row_of P p)
    go true z true k = absurd (h p (same-eq (E.Role p) e k) (eqb-true (row_of P p) 128 z))
    go true z false k = eqb-true (row_of P p) 128 z
    go false z u k = refl

-- where an entity is asked about, a role's row is its own
pub row_plain : (P : Pool) (b : ℕ) (p : Role) → row_of P p ≡ row_for P (E.Entity b) p
row_plain P b = row_same P (E.Entity b) (λ p q z. let y : ◌≡◌ {A = ℕ} 0 1 = cc in omega arith)

four-map : (ρ σ : Role → ℕ) → ((p : Role) → ρ p ≡ σ p) → (x : Expression) → four_rows ρ x ≡ four_rows σ x
four-map ρ σ h (E.Entity b) = refl
four-map ρ σ h (E.Role p) = λ i. record { a = h p i; b = h p i; c = h p i; d = h p i }
four-map ρ σ h (E.Linked a m) = refl
four-map ρ σ h (E.Intersection p) = λ i. record { a = h p.first i; b = h p.second i; c = h (third p) i; d = h (fourth p) i }
four-map ρ σ h (E.Goal m) = refl

-- where the rows of the roles are their own, so are those of the rules
pub parts_same : (P : Pool) (e : Expression) → ((p : Role) → row_of P p ≡ row_for P e p) → (k : ℕ) (l : List ℕ) → PartsTo (row_of P) P k l
    → PartsTo (row_for P e) P k l
parts_same P e h k l c =
    record { sized = c.sized; under = c.under; four = λ i z. c.four i z ∙ four-map (row_of P) (row_for P e) h (body_at P i) }

-- the rules where no role is asked about
pub compiled-plain : (P : Pool) → P.count ≤ 128 → (X : Rules) → Ruled P X → Compiled P (E.Entity 0) X
compiled-plain P small X ruled =
    compiled-of P small (E.Entity 0) X X ruled refl ruled.words refl refl refl refl
    (parts_same P (E.Entity 0) (row_plain P 0) P.count X.part ruled.part)

-- the rules by their columns
pub by-columns : (P : Pool) (X : Rules) → Ruled P X → Ruled P (rules_of P.count X.words X.head X.part X.first X.named X.src)
by-columns P X r =
    record {
      count = refl;
      wide = r.wide;
      words = r.words;
      head = r.head;
      part = r.part;
      first = r.first;
      lit = r.lit;
      able = r.able;
      links = r.links;
      names = r.names;
      linked = r.linked;
    }

-- the rules of a pool fit
pub ruled-fits : (P : Pool) → P.count ≤ 128 → (X : Rules) → Ruled P X → Fits X
ruled-fits P small X ruled = (compiled-plain P small X ruled).fits
