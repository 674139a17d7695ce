-- The credentials and the command of a move, found part by part. Assumes nothing.
use Rattle.std.specs.Prelude.{ℕ, ◌≤◌, ◌<◌, ◌≡◌, refl, Bool, not, eqb, ltb, replicate}
use Rattle.std.proofs.Common.{arith, sym, ◌∙◌, ap₂, lt-ltb, le-ltb}
use Rattle.std.proofs.Math.Path.{ap}
use Rattle.std.proofs.Math.Bool.{true, false, cond}
use mathlib.Core.List.{List, [], ◌∷◌, ◌++◌}
use Rattle.std.proofs.Math.ListN.{length}
use Rattle.expression.specs.declared.Role.{Role}
use Rattle.expression.specs.declared.Credential.{Credential}
use Rattle.expression.specs.declared.Expression.{Expression}
use Rattle.expression.specs.declared.Expression.TheVariants as E
use Rattle.expression.specs.Kinds.{is_role_expression}
use Rattle.rt0.specs.declared.Pool.{Pool}
use Rattle.rt0.specs.laws.Pool.{credentials}
use Rattle.rt0.specs.laws.Added.{count-length}
use Rattle.word.specs.laws.Bools.{false-true}
use Rattle.rules.specs.laws.Table.{chosen}
use Rattle.class.specs.declared.Name.{Name}
use Rattle.tables.specs.Lookup.{direct_of}
use Rattle.tables.specs.laws.Tables.{tables_of}
use Rattle.tables.specs.Public.{public_of}
use Rattle.tables.specs.declared.House.{House}
use Rattle.graph.specs.declared.Node.{Node}
use Rattle.graph.specs.declared.Nodes.{Nodes}
use Rattle.graph.specs.laws.Graph.{nodes_of}
use Rattle.graph.specs.laws.Columns.{nodes-length}
use Rattle.message.specs.declared.Command.{Command}
use Rattle.message.specs.declared.Command.TheVariants.{Bring, Join}
use Rattle.rt0.specs.Shown.{is_shown}
use Rattle.needed.specs.laws.Column.{none-on}
use Rattle.moves.specs.declared.Preparation.{Preparation}
use Rattle.moves.specs.declared.Candidate.{Candidate}
use Rattle.moves.specs.declared.Outgoing.{Outgoing}
use Rattle.moves.specs.Initial.{initial_state}
use Rattle.moves.specs.Candidates.{child_number}
use Rattle.moves.specs.laws.Own.{Prepared}
use Rattle.sending.specs.laws.Unshown.{unshown_of}
use Rattle.sending.specs.laws.Picked.{all-on}
use Rattle.sending.specs.laws.Sent.{Sends, command_for, direct_in, side_set_of, side_chosen}

pub sends-as : {cs ds : List Credential} {k : Command} {r : Outgoing} → cs ≡ ds → Sends cs k r → Sends ds k r
sends-as h s = record { shows = s.shows ∙ h; command = s.command; few = s.few }

-- No credential, or one

module _ (P : Pool) (none : credentials P ≡ []) where
  pub empty-few : P.count < 128
  empty-few = omega (arith, count-length P, ap length none)

  pub sends-alone : (k : Command) → Sends [] k (record { pool = P; on = replicate 128 0; command = k })
  sends-alone k = record { shows = none-on P 128; command = refl; few = omega (arith, empty-few) }

module _ (shown : List Credential) (c : Credential) {b : Bool} (be : b ≡ is_shown shown c) where
  pub one-shown : {k : Command} {r : Outgoing} → b ≡ true → Sends [] k r → Sends (unshown_of shown (c ∷ [])) k r
  unfolding unshown_of
  one-shown h s = sends-as (ap (λ (x : Bool). cond (not x) (c ∷ []) []) (sym h ∙ be)) s

  pub one-new : (P Q : Pool) (k : Command) → b ≡ false → credentials P ≡ [] → credentials Q ≡ credentials P ++ (c ∷ [])
      → Sends (unshown_of shown (c ∷ [])) k (record { pool = Q; on = replicate 128 1; command = k })
  unfolding unshown_of
  one-new P Q k h none qe =
      let all : credentials Q ≡ c ∷ [] = qe ∙ ap (λ (l : List Credential). l ++ (c ∷ [])) none in
      let few : Q.count ≤ 128 = omega (arith, count-length Q, ap length all) in
      record {
        shows = all-on Q few ∙ all ∙ ap (λ (x : Bool). cond (not x) (c ∷ []) []) (sym h ∙ be);
        command = refl;
        few = few;
      }

-- The direct credential

no-direct : (shown : List Credential) (own : ℕ) (x : Expression) → is_role_expression x ≡ false → [] ≡ direct_in shown own x
unfolding direct_in
no-direct shown own (E.Entity a) h = refl
no-direct shown own (E.Role a) h = absurd (false-true (sym h))
no-direct shown own (E.Linked a m) h = refl
no-direct shown own (E.Intersection p) h = refl
no-direct shown own (E.Goal m) h = refl

module _ (shown : List Credential) (own : ℕ) (f : Expression) {k : Command} {r : Outgoing} where
  pub direct-other : (x : Expression) → f ≡ x → is_role_expression x ≡ false → Sends [] k r → Sends (direct_in shown own f) k r
  direct-other x h z s = sends-as (no-direct shown own x z ∙ ap (direct_in shown own) (sym h)) s

  pub direct-role : {a : Role} → f ≡ E.Role a → Sends (unshown_of shown (direct_of own a ∷ [])) k r → Sends (direct_in shown own f) k r
  unfolding direct_in
  direct-role {a} h s = sends-as (ap (direct_in shown own) (sym h)) s

-- The needed ones

set-side : (H : House) (b : Bool) (x : Node) (side : ℕ) → b ≡ eqb x.verifier side
    → cond b (credentials H.issuer) (public_of (tables_of H)).subject_stored ≡ side_set_of (public_of (tables_of H)) side x
unfolding public_of tables_of side_set_of
set-side H b x side h = ap (λ (t : Bool). cond t (credentials H.issuer) (public_of (tables_of H)).subject_stored) h

-- our set for our side of a node
pub side-chosen : (o : Preparation) → Prepared o → (b : Bool) (side : ℕ) (x : Node) → b ≡ eqb x.verifier side
    → side_chosen o b ≡ side_set_of (public_of (tables_of o.house)) side x
unfolding side_chosen
side-chosen o p b side x h =
    ap₂ (λ (i s : List Credential). cond b i s) (all-on o.house.issuer (omega (arith, p.housed.issuer))) p.visible ∙ set-side o.house b x side h

-- The command of an edge

module _ (names : List Name) (side : ℕ) (N : Nodes) (i : ℕ) (w : Candidate) {j : ℕ} (je : j ≡ child_number (nodes_of N) w) where
  joined : Command
  joined = Join (record { kind = w.kind; parent = i; child = child_number (nodes_of N) w })

  brought : Command
  brought =
      Bring (record {
        kind = w.kind;
        parent = i;
        expression = w.expression;
        subject = w.subject;
        state = initial_state names
            (eqb w.verifier side) w.expression;
      })

  by-child : (b : Bool) → b ≡ ltb (child_number (nodes_of N) w) (length (nodes_of N)) → cond b joined brought ≡ command_for names side (nodes_of N) i w
  unfolding command_for joined brought
  by-child b h = ap (λ (x : Bool). cond x joined brought) h

  pub command-join : j < N.count → Join (record { kind = w.kind; parent = i; child = j }) ≡ command_for names side (nodes_of N) i w
  unfolding joined
  command-join l =
      ap (λ (x : ℕ). Join (record { kind = w.kind; parent = i; child = x })) je
      ∙ by-child true (sym (lt-ltb (child_number (nodes_of N) w) (length (nodes_of N)) (omega (arith, je, nodes-length N))))

  pub command-bring : {s : ℕ} → N.count ≤ j → s ≡ initial_state names (eqb w.verifier side) w.expression
      → Bring (record { kind = w.kind; parent = i; expression = w.expression; subject = w.subject; state = s }) ≡ command_for names side (nodes_of N) i w
  unfolding brought
  command-bring l se =
      ap (λ (x : ℕ). Bring (record { kind = w.kind; parent = i; expression = w.expression; subject = w.subject; state = x })) se
      ∙ by-child false (sym (le-ltb (child_number (nodes_of N) w) (length (nodes_of N)) (omega (arith, je, nodes-length N))))
