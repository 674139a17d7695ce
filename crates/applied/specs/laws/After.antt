-- The end after a message, test by test. Assumes nothing.
use Rattle.std.specs.Prelude.{ℕ, ◌≡◌, refl, Bool, true, false, eqb}
use Rattle.std.proofs.Common.{sym, ◌∙◌, ap, eq-eqb, ne_eqb}
use Rattle.std.proofs.Math.Bool.{cond}
use Rattle.graph.specs.laws.Graph.{nodes_of, edges_of}
use Rattle.graph.specs.Propagated.{propagated_state as propagated}
use Rattle.negotiation.specs.declared.Header.{Header}
use Rattle.negotiation.specs.declared.Messages.{Messages}
use Rattle.negotiation.specs.Messages.{counted}
use Rattle.negotiation.specs.declared.Negotiation.{Negotiation}
use Rattle.negotiation.specs.laws.State.{state_of}
use Rattle.negotiation.specs.State.{with_header, State, within}
use Rattle.applied.specs.After.{end_of, is_stalled, idle_of, header_after, after_message}
use Rattle.applied.specs.Step.{moved}

pub after-within : (v : ℕ) (S : State) (m full : Bool) → within (after_message v S m full) ≡ within S
unfolding within after_message with_header
after-within v S m full = refl

module _ (p : ℕ) (s f : Bool) where
  by_tests_lem : (a b c d : Bool) → eqb p 1 ≡ a → eqb p 2 ≡ b → s ≡ c → f ≡ d → end_of p s f ≡ cond a 1 (cond b 2 (cond c 3 (cond d 4 0)))
  unfolding end_of
  by_tests_lem a b c d x y z w = λ i. cond (x i) 1 (cond (y i) 2 (cond (z i) 3 (cond (w i) 4 0)))

  pub end-success : p ≡ 1 → 1 ≡ end_of p s f
  end-success h = sym (by_tests_lem true _ _ _ (eq-eqb p 1 h) refl refl refl)

  module _ (h : p ≡ 1 → ⊥) where
    pub end-failed : p ≡ 2 → 2 ≡ end_of p s f
    end-failed g = sym (by_tests_lem false true _ _ (ne_eqb p 1 h) (eq-eqb p 2 g) refl refl)

    module _ (g : p ≡ 2 → ⊥) where
      pub end-stalled : s ≡ true → 3 ≡ end_of p s f
      end-stalled e = sym (by_tests_lem false false true _ (ne_eqb p 1 h) (ne_eqb p 2 g) e refl)

      pub end-full : s ≡ false → f ≡ true → 4 ≡ end_of p s f
      end-full e d = sym (by_tests_lem false false false true (ne_eqb p 1 h) (ne_eqb p 2 g) e d)

      pub end_none : s ≡ false → f ≡ false → 0 ≡ end_of p s f
      end_none e d = sym (by_tests_lem false false false false (ne_eqb p 1 h) (ne_eqb p 2 g) e d)

-- a header of these numbers
pub header_is : (v p : ℕ) (moved full : Bool) (h : Header) {b : Bool} {e i : ℕ} {m : Messages} → b ≡ is_stalled moved h.idle → e ≡ end_of p b full
    → i ≡ idle_of moved → m ≡ counted v h.messages
    → ◌≡◌ {A = Header} (record { side = h.side; own = h.own; other = h.other; wanted = h.wanted; end = e; idle = i; messages = m })
    (header_after v p moved full h)
unfolding header_after
header_is v p moved full h x y z w =
    λ t. record {
      side = h.side;
      own = h.own;
      other = h.other;
      wanted = h.wanted;
      end = (y ∙ ap (λ (b : Bool). end_of p b full) x) t;
      idle = z t;
      messages = w t;
    }

pub after_is : (v : ℕ) (n m : Negotiation) (moved full : Bool) {p : ℕ} {h : Header} → p ≡ propagated (nodes_of n.nodes) (edges_of n.edges) 0
    → h ≡ header_after v p moved full n.header → state_of m ≡ with_header (state_of n) h
    → state_of m ≡ after_message v (state_of n) moved full
unfolding after_message state_of
after_is v n m moved full x y z = z ∙ ap (with_header (state_of n)) (y ∙ ap (λ (k : ℕ). header_after v k moved full n.header) x)
