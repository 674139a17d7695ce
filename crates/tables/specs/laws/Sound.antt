-- Sound tables are accepted from their bytes. Assumes nothing.
use Rattle.std.specs.Prelude.{ℕ, ◌+◌, ◌<◌, ◌≤◌, ◌≡◌, ◌↔◌, Bool, false, cond, not, ◌&&◌, eqb, length, get_or, drop}
use Rattle.std.proofs.Math.Path.{refl, sym}
use Rattle.std.proofs.Common.{ap, ◌∙◌, subst, arith, lt-ltb, le-leb, ne_eqb, length-append, drop-drop, drop_at}
use Rattle.std.proofs.Math.Bool.{true}
use mathlib.Core.List.Memᴰ
use mathlib.Core.List.{List, [], ◌∷◌, ◌++◌, append_assoc, append-nil}
use Rattle.numbers.specs.Sizes.{MOST-TABLES-BYTES}
use Rattle.expression.specs.laws.There.{size-there}
use Rattle.rt0.specs.Lists.{all}
use Rattle.rt0.specs.laws.Lists.{all-each}
use Rattle.record.specs.declared.Record.{Record}
use Rattle.record.specs.declared.Record.TheVariants.{Own, Access}
use Rattle.record.specs.Record.{formed, record_bytes, size_of}
use Rattle.record.specs.laws.RecordExact.{record-length, some_size, record-back}
use Rattle.tables.specs.Tables.{Tables, unread, with_names, with_stored, with_pairs, added}
use Rattle.tables.specs.Check.{or_else, pair_number, class_number, in_order, above, room, order_number, judge, sized, read_tables}
use Rattle.tables.specs.laws.Check.{read_from, from_past, from-judged}
use Rattle.tables.specs.laws.Group.{Group, Lawful}
use Rattle.tables.specs.laws.Groups.{names, credentials_of, pairs, names-lawful, credentials-lawful, pairs-lawful}
use Rattle.tables.specs.Accepted.{Rising, Records, Sound}
use Rattle.tables.specs.laws.Sorted.{rising-parts}
use Rattle.tables.specs.Bytes.{bytes_of, tables_bytes}
use Rattle.tables.specs.laws.Accepted.{accepted-length, accepted-sound, accepted-bytes}
use Rattle.tables.specs.Public.{DifferOnly, public_of}
use Rattle.tables.specs.laws.Public.{differ-public, public-differ}
use Rattle.numbers.specs.Answer.{refused, accepted}
use Rattle.numbers.specs.Refusals.{LENGTH}

-- each element of an ascending list comes after all before it
rising-middle : {A : Type 0} {before : A → A → Bool} (L : List A) (x : A) (M : List A) → Rising before (L ++ (x ∷ M)) → all (λ y. before y x) L ≡ true
rising-middle [] x M r = refl
rising-middle {before = before} (y ∷ L) x M r =
    let w = rising-parts r in
    λ i. all-each (λ z. before y z) (Memᴰ.append_right L (Memᴰ.head refl)) w.0 i && rising-middle L x M w.1 i

-- the reading goes on from an index and tables to a further index, where the rest of the bytes stands, and tables
record Goes (s : List ℕ) (at : ℕ) (T : Tables) (rest : List ℕ) (U : Tables) : Type 0 where
  to : ℕ
  inside : to ≤ length s
  there : drop to s ≡ rest
  same : read_from s at T ≡ read_from s to U

-- over a record that earns no number
goes-record : (s : List ℕ) (at : ℕ) (T : Tables) (r : Record) (rest : List ℕ) → at ≤ length s → drop at s ≡ record_bytes r ++ rest
    → formed r ≡ true → judge T r ≡ 0 → Goes s at T rest (added T r)
goes-record s at T r rest inside h f q =
    let fits : at + size_of r ≤ length s = omega (
      arith,
      size-there s at inside (record_bytes r ++ rest) h,
      length-append (record_bytes r) rest,
      record-length r,
    ) in
    record {
      to = at + size_of r;
      inside = fits;
      there = sym (drop-drop (size_of r) at s) ∙ ap (drop (size_of r)) h ∙ drop_at (record_bytes r) rest (size_of r) (record-length r);
      same = from-judged s at T (omega (arith, some_size r)) r 0 (record-back s at r rest inside h f) q;
    }

-- over the records of a command
module _ {A : Type 0} {G : Group A} (l : Lawful G) (s rest : List ℕ) (T : Tables) (order : (x : A) → in_order T (G.wrap x) ≡ true) where
  judge-next : (L : List A) (x : A) (M : List A) → Records G.wrap G.before G.most (G.number T) (L ++ (x ∷ M)) → judge (G.put T L) (G.wrap x) ≡ 0
  judge-next L x M w =
      let rule = w.rules x (Memᴰ.append_right L (Memᴰ.head refl)) in
      let up = rising-middle L x M w.ascend in
      let room = lt-ltb (length L) G.most (omega (arith, w.few, length-append L (x ∷ M))) in
      l.judges T L x (order x) ∙ (λ i. or_else (rule i) (cond (up i && room i) 0 6))

  goes-records : (M L : List A) → Records G.wrap G.before G.most (G.number T) (L ++ M)
      → (at : ℕ) → at ≤ length s → drop at s ≡ bytes_of G.wrap M ++ rest → Goes s at (G.put T L) rest (G.put T (L ++ M))
  goes-records [] L w at inside h = record { to = at; inside = inside; there = h; same = ap (λ (K : List A). read_from s at (G.put T K)) (sym (append-nil L)) }
  goes-records (x ∷ M) L w at inside h =
      let g = goes-record s at (G.put T L) (G.wrap x) (bytes_of G.wrap M ++ rest) inside
      (h ∙ append_assoc (record_bytes (G.wrap x)) (bytes_of G.wrap M) rest)
      (w.form x (Memᴰ.append_right L (Memᴰ.head refl))) (judge-next L x M w) in
      let e = append_assoc L (x ∷ []) M in
      let k = goes-records M (L ++ (x ∷ [])) (subst (Records G.wrap G.before G.most (G.number T)) (sym e) w) g.to g.inside g.there in
      record {
        to = k.to;
        inside = k.inside;
        there = k.there;
        same = g.same ∙ ap (read_from s g.to) (l.more T L x) ∙ k.same
            ∙ ap (λ (K : List A). read_from s k.to (G.put T K)) e;
      }

-- over all commands
module _ (T : Tables) (k : Sound T) where
  abbrev s : List ℕ
  s = tables_bytes T

  -- the tables up to each command
  abbrev up_to_own : Tables
  up_to_own = added unread (Own T.own)

  abbrev up_to_names : Tables
  up_to_names = with_names up_to_own T.names

  abbrev up_to_issuer : Tables
  up_to_issuer = with_stored false up_to_names T.issuer_stored

  abbrev up_to_subject : Tables
  up_to_subject = with_stored true up_to_issuer T.subject_stored

  abbrev up_to_sensitive : Tables
  up_to_sensitive = with_pairs false up_to_subject T.sensitive

  some-own : not (eqb T.own 0) ≡ true
  some-own = ap not (ne_eqb T.own 0 (λ e. omega (arith, k.own)))

  goes-all : Goes s 0 unread [] T
  unfolding tables_bytes formed judge class_number order_number in_order above room pair_number names credentials_of pairs
  goes-all =
      let o = goes-record s 0 unread (Own T.own) _ (omega arith) refl (lt-ltb 0 T.own k.own) refl in
      let n = goes-records names-lawful s _ up_to_own (λ x i. some-own i && true && true && true && true) T.names [] k.names o.to o.inside
      o.there in
      let d = goes-records (credentials-lawful false) s _ up_to_names (λ x i. some-own i && true && true && true) T.issuer_stored [] k.issuer_stored
      n.to n.inside n.there in
      let e = goes-records (credentials-lawful true) s _ up_to_issuer (λ x i. some-own i && true && true) T.subject_stored [] k.subject_stored
      d.to d.inside d.there in
      let p = goes-records (pairs-lawful false) s _ up_to_subject (λ x i. some-own i && true) T.sensitive [] k.sensitive e.to e.inside e.there in
      let q = goes-records (pairs-lawful true) s [] up_to_sensitive (λ x. some-own) T.access [] k.access p.to p.inside
      (p.there ∙ sym (append-nil (bytes_of Access T.access))) in
      record { to = q.to; inside = q.inside; there = q.there; same = o.same ∙ n.same ∙ d.same ∙ e.same ∙ p.same ∙ q.same }

some_bytes : (T : Tables) → 0 < length (tables_bytes T)
unfolding tables_bytes record_bytes
some_bytes T = omega arith

-- sound tables are accepted from their bytes, where these are not too many
pub sound-accepted : (T : Tables) → Sound T → length (tables_bytes T) ≤ MOST-TABLES-BYTES → read_tables (tables_bytes T) ≡ accepted T
unfolding read_tables sized read_from
sound-accepted T k l =
    let s = tables_bytes T in
    let g = goes-all T k in
    (λ i. cond (lt-ltb 0 (length s) (some_bytes T) i && le-leb (length s) MOST-TABLES-BYTES l i) (read_from s 0 unread) (refused LENGTH))
    ∙ g.same
    ∙ from_past s g.to T (omega (arith, size-there s g.to g.inside [] g.there))

-- bytes are accepted exactly where they are those of sound tables, and not too many
pub tables-exactly : (s : List ℕ) (T : Tables) → ((i : ℕ) → get_or s i 0 < 256)
    → (read_tables s ≡ accepted T) ↔ (Sound T × (s ≡ tables_bytes T) × (length s ≤ MOST-TABLES-BYTES))
tables-exactly s T bytes = (
  λ h. (accepted-sound s T h, accepted-bytes s T bytes h, (accepted-length s T h).1),
  λ w. ap read_tables w.1 ∙ sound-accepted T w.0 (subst (λ (t : List ℕ). length t ≤ MOST-TABLES-BYTES) w.1 w.2),
)

-- two accepted tables differ only in direct credentials of sensitive roles and in AC records exactly where they have one public part
pub accepted-public : (s t : List ℕ) (T U : Tables) → read_tables s ≡ accepted T → read_tables t ≡ accepted U → DifferOnly T U ↔ (public_of T ≡ public_of U)
accepted-public s t T U h k = (
  λ d. differ-public T U (accepted-sound s T h).subject_stored.ascend (accepted-sound t U k).subject_stored.ascend d,
  λ e. public-differ T U e,
)
