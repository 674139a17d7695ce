-- What a call finds goes by the public part of the tables. Assumes nothing.
use Rattle.std.specs.Prelude.{ℕ, ◌≡◌, ◌&&◌, List, length}
use Rattle.std.proofs.Math.Path.{refl}
use Rattle.std.proofs.Common.{sym, ◌∙◌, ap}
use Rattle.std.proofs.Math.Bool.{Bool, true, false, cond}
use Rattle.std.proofs.Math.Option.{Option, none, some}
use Rattle.std.proofs.Math.Dec.{eqb}
use Rattle.tables.specs.Tables.{Tables}
use Rattle.tables.specs.Check.{read_tables}
use Rattle.tables.specs.Public.{Public, public_of}
use Rattle.negotiation.specs.State.{State}
use Rattle.negotiation.specs.Layout.{read_state}
use Rattle.damage.specs.Header.{header_sound, counts_agree, empty_sound}
use Rattle.damage.specs.Damage.{graph_sound, sound, if_sound, read_sound}
use Rattle.standing.specs.Standing.{behind_damage, behind_tables, restore_of}
use Rattle.numbers.specs.Answer.{Answer, refused, accepted}
use Rattle.numbers.specs.Refusals.{LENGTH}
use Rattle.numbers.specs.Sizes.{NEGOTIATION-BYTES}

pub sound-public : (T U : Tables) (S : State) → public_of T ≡ public_of U → sound T S ≡ sound U S
unfolding sound public_of
sound-public T U S e =
    ap (λ (P : Public). header_sound P.own S.header
    && counts_agree S.header.messages
    && cond (eqb (length S.nodes) 0) (empty_sound S.header (length S.edges) (length S.shown)) (graph_sound P.names S)) e

-- two calls whose tables have one public part: both are refused, with one number, or both find the same state
pub data Alike (T U : Tables) (x y : Answer (Tables × State)) : Type 0 where
  both-refused : (k : ℕ) → x ≡ refused k → y ≡ refused k → Alike T U x y
  both_found : (S : State) → x ≡ accepted (T, S) → y ≡ accepted (U, S) → Alike T U x y

alike-by : (T U : Tables) {x y v w : Answer (Tables × State)} → v ≡ x → w ≡ y → Alike T U x y → Alike T U v w
alike-by T U p q (both-refused k a b) = both-refused k (p ∙ a) (q ∙ b)
alike-by T U p q (both_found S a b) = both_found S (p ∙ a) (q ∙ b)

module _ (T U : Tables) (e : public_of T ≡ public_of U) where
  alike-sound : (x : Option State) → Alike T U (behind_damage T (if_sound T x)) (behind_damage U (if_sound U x))
  alike-sound none = both-refused 20 refl refl
  alike-sound (some S) = go (sound T S) refl
    where
      go : (b : Bool) → sound T S ≡ b → Alike T U (behind_damage T (cond (sound T S) (some S) none)) (behind_damage U (cond (sound U S) (some S) none))
      go true q =
          both_found S (ap (λ (b : Bool). behind_damage T (cond b (some S) none)) q)
          (ap (λ (b : Bool). behind_damage U (cond b (some S) none)) (sym (sound-public T U S e) ∙ q))
      go false q =
          both-refused 20 (ap (λ (b : Bool). behind_damage T (cond b (some S) none)) q)
          (ap (λ (b : Bool). behind_damage U (cond b (some S) none)) (sym (sound-public T U S e) ∙ q))

  alike-length : (b : Bool) (negotiation : List ℕ)
      → Alike T U (cond b (behind_tables negotiation (accepted T)) (refused LENGTH)) (cond b (behind_tables negotiation (accepted U)) (refused LENGTH))
  unfolding read_sound
  alike-length true negotiation = alike-sound (read_state negotiation)
  alike-length false negotiation = both-refused 1 refl refl

  pub restore-alike : (s t : List ℕ) → read_tables s ≡ accepted T → read_tables t ≡ accepted U → (negotiation : List ℕ)
      → Alike T U (restore_of s negotiation) (restore_of t negotiation)
  unfolding restore_of
  restore-alike s t h k negotiation =
      let b : Bool = eqb (length negotiation) NEGOTIATION-BYTES in
      alike-by T U (ap (λ (o : Answer Tables). cond b (behind_tables negotiation o) (refused LENGTH)) h)
      (ap (λ (o : Answer Tables). cond b (behind_tables negotiation o) (refused LENGTH)) k) (alike-length b negotiation)
