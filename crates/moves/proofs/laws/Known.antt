-- What is known is the same for tables that differ only where nothing is disclosed. Assumes nothing.
use Rattle.std.specs.Prelude.{ℕ, ◌≡◌, refl, ◌⊎◌, ◌↔◌, Bool, true, false, not, cond, ◌&&◌}
use Rattle.std.proofs.Common.{sym, ◌∙◌, ap, ⊎_elim}
use mathlib.Core.List.{List, [], ◌∷◌, Memᴰ}
use Rattle.expression.specs.declared.Role.{Role}
use Rattle.expression.specs.declared.Credential.{Credential}
use Rattle.expression.specs.Same.{same_role}
use Rattle.expression.specs.laws.Same.{same_role-eq, eq-same_role}
use Rattle.rt0.specs.Lists.{any}
use Rattle.rt0.specs.laws.Lists.{any-find, any_here}
use Rattle.word.specs.laws.Bools.{and_parts, and_both, false-true, or-neither, bool_iff}
use Rattle.record.specs.declared.Pair.{Pair}
use Rattle.tables.specs.Tables.{Tables}
use Rattle.tables.specs.Lookup.{holds, is_sensitive, other_of}
use Rattle.tables.specs.Public.{Hidden, held_of, hidden_of}
use Rattle.tables.specs.laws.Public.{held-mem, held-find}
use Rattle.propagation.specs.laws.Flags.{not-of}
use Rattle.negotiation.specs.State.{State}
use Rattle.moves.specs.declared.Holding.{Holding}
use Rattle.moves.specs.declared.Holding.TheVariants.{Absent, Free, Guarded}
use Rattle.moves.specs.declared.Known.TheVariants.{Waiting, Seen}
use Rattle.moves.specs.Known.{policy_of, holding_of, is_acknowledged, known_of}
use Rattle.moves.specs.laws.Known.{same_holding, same-holding-eq, eq-same-holding, Differs, held-exact, holding-alike, differing, disclosed_among, is_disclosed, Disclosed, disclosed-exact}

-- of one role: the same while it does not differ or its Ack target is unsatisfied
known-one : (b : Bool) (x y : Holding) → (not (same_holding x y) && b) ≡ false → cond b (Seen x) Waiting ≡ cond b (Seen y) Waiting
known-one false x y h = refl
known-one true x y h = go (same_holding x y) refl h
  where
    go : (c : Bool) → same_holding x y ≡ c → (not c && true) ≡ false → Seen x ≡ Seen y
    go true e h = ap Seen (same-holding-eq x y e)
    go false e h = absurd (false-true (sym h))

known_among : (H K : Hidden) (S : State) (P : List Pair) → disclosed_among H K S P ≡ false → known_of H P S ≡ known_of K P S
unfolding known_of
known_among H K S [] h = refl
known_among H K S (p ∷ ps) h =
    let q = or-neither (differing H K p && is_acknowledged S p.other) (disclosed_among H K S ps) h in
    let e = known-one (is_acknowledged S p.other) (holding_of H p.role) (holding_of K p.role) q.0 in
    let es : known_of H ps S ≡ known_of K ps S = known_among H K S ps q.1 in
    λ i. record { role = p.role; ack = p.other; known = e i } ∷ es i

-- "acting on possession before Ack is satisfied" is shut out: while no differing role's Ack target is satisfied, the same is known
pub known_alike : (T U : Tables) (S : State) → T.sensitive ≡ U.sensitive → is_disclosed T U S ≡ false
    → known_of (hidden_of T) T.sensitive S ≡ known_of (hidden_of U) U.sensitive S
unfolding is_disclosed
known_alike T U S e h = known_among (hidden_of T) (hidden_of U) S T.sensitive h ∙ ap (λ (P : List Pair). known_of (hidden_of U) P S) e

-- the same, role by role
pub known-each : (T U : Tables) (S : State) → T.sensitive ≡ U.sensitive
    → ((p : Pair) → Memᴰ p T.sensitive → (holding_of (hidden_of T) p.role ≡ holding_of (hidden_of U) p.role) ⊎ (is_acknowledged S p.other ≡ false))
    → known_of (hidden_of T) T.sensitive S ≡ known_of (hidden_of U) U.sensitive S
known-each T U S e h = known_alike T U S e (not-of (is_disclosed T U S) (λ o. shut ((disclosed-exact T U S).0 o)))
  where
    shut : Disclosed T U S → ⊥
    shut o = ⊎_elim (λ a. o.differs a) (λ b. false-true (sym b ∙ o.acknowledged)) (h o.pair o.stands)
