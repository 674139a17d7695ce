-- Names and pairs in columns, with one more. Assumes nothing.
use Rattle.std.specs.Prelude.{ℕ, ◌+◌, ◌*◌, ◌<◌, ◌≡◌, refl, [], ◌∷◌, ◌++◌, get_or, length, set}
use Rattle.std.proofs.Common.{arith, get_or-set_same, get_or-set_other}
use Rattle.rt0.specs.laws.Added.{pair, snoc-up_to, pair-before, pair-first, pair-second, length-up_to}
use Rattle.class.specs.declared.Name.{Name}
use Rattle.class.specs.declared.Names.{Names}
use Rattle.class.specs.laws.Names.{name_at, names_of}
use Rattle.record.specs.declared.Pair.{Pair}
use Rattle.tables.specs.declared.Pairs.{Pairs}
use Rattle.tables.specs.laws.Tables.{pair_at, pairs_of}

-- Names

-- the columns have their lengths
pub record NamesSized (N : Names) : Type 0 where
  pub name : length N.name ≡ 64
  pub class : length N.class ≡ 64

-- the columns Q are those of P with the name x behind
pub record NamesStored (x : Name) (P Q : Names) : Type 0 where
  pub counted : Q.count ≡ P.count + 1
  pub all : names_of Q ≡ names_of P ++ (x ∷ [])
  pub kept : (i : ℕ) → i < P.count → get_or Q.name i 0 ≡ get_or P.name i 0
  pub last : get_or Q.name P.count 0 ≡ x.name

abbrev added_name : Names → Name → Names
added_name N x = record { count = N.count + 1; name = set N.name N.count x.name; class = set N.class N.count x.class }

pub stored-name : (N : Names) (x : Name) → N.count < 64 → NamesSized N → NamesStored x N (added_name N x)
unfolding names_of
stored-name N x room z =
    let n : ℕ = N.count in
    let name-kept : (i : ℕ) → i < n → get_or (set N.name n x.name) i 0
    ≡ get_or N.name i 0 = λ i l. get_or-set_other N.name n i x.name 0 (λ e. omega arith) in
    let name-last : get_or (set N.name n x.name) n 0 ≡ x.name = get_or-set_same N.name n x.name 0 (omega (arith, z.name)) in
    let class-last : get_or (set N.class n x.class) n 0 ≡ x.class = get_or-set_same N.class n x.class 0 (omega (arith, z.class)) in
    record {
      counted = refl;
      all = snoc-up_to n (name_at (added_name N x)) (name_at N) x
          (λ i l j. record { name = name-kept i l j; class = get_or-set_other N.class n i x.class 0 (λ e. omega arith) j })
          (λ j. record { name = name-last j; class = class-last j });
      kept = name-kept;
      last = name-last;
    }

-- Pairs

pub record PairsSized (P : Pairs) : Type 0 where
  pub roles : length P.roles ≡ 64
  pub others : length P.others ≡ 64

-- the columns Q are those of P with the pair p behind
pub record PairsStored (p : Pair) (P Q : Pairs) : Type 0 where
  pub counted : Q.count ≡ P.count + 1
  pub all : pairs_of Q ≡ pairs_of P ++ (p ∷ [])

abbrev added_pair : Pairs → Pair → Pairs
added_pair P p =
    record {
      count = P.count + 1;
      roles = pair P.roles (P.count * 2) p.role.entity p.role.name;
      others = pair P.others (P.count * 2) p.other.entity p.other.name;
    }

pub stored-pair : (P : Pairs) (p : Pair) → P.count < 32 → PairsSized P → PairsStored p P (added_pair P p)
unfolding pairs_of
stored-pair P p room z =
    let at : ℕ = P.count * 2 in
    record {
      counted = refl;
      all = snoc-up_to P.count (pair_at (added_pair P p)) (pair_at P) p
          (λ i l j.
          record {
            role = record {
              entity = pair-before P.roles at p.role.entity p.role.name (i * 2) (omega arith) j;
              name = pair-before P.roles at p.role.entity p.role.name (i * 2 + 1) (omega arith) j;
            };
            other = record {
              entity = pair-before P.others at p.other.entity p.other.name (i * 2) (omega arith) j;
              name = pair-before P.others at p.other.entity p.other.name (i * 2 + 1) (omega arith) j;
            };
          })
          (λ j.
          record {
            role = record {
              entity = pair-first P.roles at p.role.entity p.role.name (omega (arith, z.roles)) j;
              name = pair-second P.roles at p.role.entity p.role.name (omega (arith, z.roles)) j;
            };
            other = record {
              entity = pair-first P.others at p.other.entity p.other.name (omega (arith, z.others)) j;
              name = pair-second P.others at p.other.entity p.other.name (omega (arith, z.others)) j;
            };
          });
    }

-- the columns hold as many as they count
pub names-length : (N : Names) → length (names_of N) ≡ N.count
unfolding names_of
names-length N = length-up_to N.count (name_at N)

pub pairs-length : (P : Pairs) → length (pairs_of P) ≡ P.count
unfolding pairs_of
pairs-length P = length-up_to P.count (pair_at P)
