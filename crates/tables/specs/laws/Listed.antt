-- A name listed as subject-all counts as one that is not listed (request 2). Assumes nothing.
use Rattle.std.specs.Prelude.{ℕ, ◌≡◌, refl, Bool, true, false, not, cond, eqb, ltb}
use Rattle.std.proofs.Common.{arith, sym, ap, ◌∙◌, eqb-true, ltb-true}
use mathlib.Core.List.{List, [], ◌∷◌, Memᴰ}
use Rattle.rt0.specs.laws.Lists.{all-each}
use Rattle.class.specs.declared.Name.{Name}
use Rattle.class.specs.Names.{class_of}
use Rattle.class.specs.laws.Listed.{class-unlisted}
use Rattle.tables.specs.Tables.{Tables}
use Rattle.tables.specs.Accepted.{Rising, rising_none, rising-cons, Sound}
use Rattle.tables.specs.Public.{keep}

-- names without those that are subject-all
abbrev less_subject_all : List Name → List Name
less_subject_all ns = keep (λ (n : Name). not (eqb n.class 3)) ns

less-class : (ns : List Name) → Rising (λ m n. ltb m.name n.name) ns → (m : ℕ) → class_of (less_subject_all ns) m ≡ class_of ns m
unfolding class_of
less-class [] rising_none m = refl
less-class (n ∷ ns) (rising-cons above rest) m = go (eqb n.class 3) (eqb n.name m) refl refl (less-class ns rest m)
  where
    other : n.name ≡ m → (k : Name) → Memᴰ k ns → k.name ≡ m → ⊥
    other e k i q = omega (arith, ltb-true n.name k.name (all-each (λ (x : Name). ltb n.name x.name) i above), e, q)

    go : (c b : Bool) → eqb n.class 3 ≡ c → eqb n.name m ≡ b → class_of (less_subject_all ns) m ≡ class_of ns m
        → class_of (cond (not c) (n ∷ less_subject_all ns) (less_subject_all ns)) m ≡ cond b n.class (class_of ns m)
    go true true p q ih = ih ∙ class-unlisted ns m (other (eqb-true n.name m q)) ∙ sym (eqb-true n.class 3 p)
    go true false p q ih = ih
    go false b p q ih = (λ i. cond (q i) n.class (class_of (less_subject_all ns) m)) ∙ ap (cond b n.class) ih

-- no name of accepted tables has another class where the records of subject-all names are left out
pub subject-all-unlisted : (T : Tables) → Sound T → (m : ℕ) → class_of (keep (λ (n : Name). not (eqb n.class 3)) T.names) m ≡ class_of T.names m
subject-all-unlisted T t m = less-class T.names t.names.ascend m
