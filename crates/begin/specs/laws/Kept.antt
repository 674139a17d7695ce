-- A begun negotiation is not damaged, and begin looks at nothing hidden (document 01, "The reply", "From the state", "Two runs"). Assumes
-- nothing.
use Rattle.std.specs.Prelude.{ℕ, ◌≡◌, refl, Bool, true, false, not, cond, ◌&&◌, List, eqb, ltb, length}
use Rattle.std.proofs.Common.{arith, sym, ◌∙◌, ap, eq-eqb, ne_eqb, lt-ltb}
use Rattle.std.proofs.Math.Option.{none, some}
use Rattle.numbers.specs.Sizes.{NEGOTIATION-BYTES}
use Rattle.expression.specs.declared.Role.{Role}
use Rattle.rt0.specs.From.{role_of}
use Rattle.tables.specs.Tables.{Tables}
use Rattle.tables.specs.Check.{or_else, read_tables}
use Rattle.tables.specs.Public.{Public, public_of}
use Rattle.negotiation.specs.Messages.{message_count}
use Rattle.negotiation.specs.State.{State, fresh_state}
use Rattle.negotiation.specs.Layout.{state_bytes}
use Rattle.negotiation.specs.laws.Codec.{state-back}
use Rattle.damage.specs.Header.{wanted_sound, other_sound, header_sound, counts_agree, empty_sound}
use Rattle.damage.specs.Damage.{sound, if_sound, read_sound}
use Rattle.begin.specs.Begin.{is_requester, role_number, other_number, begin_number, side_of, begun_state, behind_tables, begin_of}
use Rattle.begin.specs.Refused.{Wanted, requester, mediator, Begun}
use Rattle.begin.specs.laws.Begin.{within-fresh}
use Rattle.begin.specs.laws.Refused.{begun-exactly}
use Rattle.numbers.specs.Answer.{Answer, refused, accepted, judged}
use Rattle.numbers.specs.laws.Answer.{value_or}
use Rattle.numbers.specs.Refusals.{LENGTH}

-- Not damaged

fresh-sound : (T : Tables) (side other : ℕ) (wanted : Role) → ltb side 2 ≡ true → other_sound T.own other ≡ true
    → wanted_sound side wanted ≡ true → sound T (fresh_state side T.own other wanted) ≡ true
unfolding sound header_sound counts_agree message_count empty_sound fresh_state
fresh-sound T side other wanted s o w = λ i. s i && eq-eqb T.own T.own refl i && o i && w i && true && true

-- the requester wants no role, the mediator one
wanted-sound : (entity name : ℕ) → Wanted entity name → wanted_sound (side_of entity name) (role_of entity name) ≡ true
unfolding wanted_sound
wanted-sound entity name (requester p q) =
    λ i. (let r : Bool = eq-eqb entity 0 p i && eq-eqb name 0 q i in
    cond (eqb (cond r 1 0) 0) (ltb 0 entity && ltb 0 name) r)
wanted-sound entity name (mediator p q) =
    λ i. cond (eqb (cond (ne_eqb entity 0 p i && eqb name 0) 1 0) 0)
    (lt-ltb 0 entity (omega (arith, p)) i && lt-ltb 0 name (omega (arith, q)) i)
    (is_requester entity name)

side-two : (entity name : ℕ) → ltb (side_of entity name) 2 ≡ true
side-two entity name = go (is_requester entity name)
  where
    go : (b : Bool) → ltb (cond b 1 0) 2 ≡ true
    go true = refl
    go false = refl

-- what begin makes is sound
pub begun-sound : {tables negotiation : List ℕ} {other entity name : ℕ} {S : State} (b : Begun tables negotiation other entity name S)
    → sound b.house S ≡ true
unfolding begun_state
begun-sound {other = other} {entity = entity} {name = name} b =
    let T : Tables = b.house in
    ap (sound T) b.fresh
    ∙ fresh-sound T (side_of entity name) other (role_of entity name) (side-two entity name)
    (λ i. not (ne_eqb other 0 b.nonzero i) && not (ne_eqb other T.own b.distinct i)) (wanted-sound entity name b.wanted)

-- Over bytes

-- the bytes that an accepted begin leaves are read back, and not damaged
pub begin-undamaged : (tables negotiation : List ℕ) (other entity name : ℕ) {T : Tables} {S : State}
    → begin_of tables negotiation other entity name ≡ accepted S → read_tables tables ≡ accepted T → read_sound T (state_bytes S) ≡ some S
unfolding read_sound begun_state
begin-undamaged tables negotiation other entity name {T} {S} h t =
    let b = (begun-exactly tables negotiation other entity name S).0 h in
    let same : b.house ≡ T = ap (value_or T) (sym b.lent.house ∙ t) in
    ap (if_sound T) (state-back S (within-fresh S (side_of entity name) b.house.own other (role_of entity name) b.fresh))
    ∙ ap (λ (x : Bool). cond x (some S) none) (ap (λ (U : Tables). sound U S) (sym same) ∙ begun-sound b)

-- Nothing hidden

-- begin goes by what may show of the tables
pub begin-public : (T U : Tables) (other entity name : ℕ) → public_of T ≡ public_of U
    → (begin_number T other entity name ≡ begin_number U other entity name) × (begun_state T other entity name ≡ begun_state U other entity name)
unfolding public_of begin_number begun_state
begin-public T U other entity name h = (
  ap (λ (P : Public). or_else (role_number entity name) (other_number P.own other)) h,
  ap (λ (P : Public). fresh_state (side_of entity name) P.own other (role_of entity name)) h,
)

-- "Begin, given the same arguments and, but for the tables, the same buffers in both runs, answers alike and leaves the same bytes"
pub begin-alike : (s t negotiation : List ℕ) (other entity name : ℕ) {T U : Tables} → read_tables s ≡ accepted T → read_tables t ≡ accepted U
    → public_of T ≡ public_of U → begin_of s negotiation other entity name ≡ begin_of t negotiation other entity name
unfolding begin_of
begin-alike s t negotiation other entity name {T} {U} p q h =
    let e = begin-public T U other entity name h in
    ap (λ (x : Answer State). cond (eqb (length negotiation) NEGOTIATION-BYTES) x (refused LENGTH))
    (ap (behind_tables other entity name) p ∙ (λ i. judged (e.0 i) (accepted (e.1 i))) ∙ sym (ap (behind_tables other entity name) q))
