-- A move as it is sent, credential by credential: its bytes, its room, and where it leads. Assumes nothing.
use Rattle.std.specs.Prelude.{ℕ, zero, suc, ◌+◌, ◌*◌, ◌≤◌, ◌<◌, ◌≡◌, refl, Bool, true, false, cond, ◌&&◌, eqb, ltb}
use Rattle.std.proofs.Common.{arith, add-one, ◌∙◌, eq-eqb, ne_eqb, lt-ltb, ltb-true, length-append}
use Rattle.std.proofs.Math.Path.{sym, ap}
use Rattle.std.proofs.Math.Bool.{and-true}
use mathlib.Core.List.{List, [], ◌∷◌, ◌++◌, map, append_assoc, append-nil}
use Rattle.std.proofs.Math.ListN.{length}
use Rattle.std.proofs.Math.Seq.{paste-zero}
use Rattle.expression.specs.declared.Credential.{Credential}
use Rattle.expression.specs.Bytes.{pasted}
use Rattle.rt0.specs.declared.Pool.{Pool}
use Rattle.word.specs.laws.Bools.{and_parts}
use Rattle.rt0.specs.laws.Pool.{credentials, credential_at}
use Rattle.rt0.specs.laws.Added.{count-length}
use Rattle.rules.specs.laws.Table.{chosen_to, chosen}
use Rattle.closure.specs.laws.Rules.{el}
use Rattle.graph.specs.laws.Columns.{nodes-length, edges-length}
use Rattle.message.specs.declared.NewEdge.{NewEdge}
use Rattle.message.specs.declared.Command.{Command}
use Rattle.message.specs.declared.Command.TheVariants.{Show, Open, Bring, Join, Mark, End}
use Rattle.message.specs.Command.{command_bytes, size_of}
use Rattle.message.specs.laws.CommandExact.{command-length}
use Rattle.negotiation.specs.declared.Negotiation.{Negotiation}
use Rattle.negotiation.specs.State.{State, within, with_shown}
use Rattle.negotiation.specs.laws.State.{state_of}
use Rattle.negotiation.specs.laws.Within.{within-few}
use Rattle.applied.specs.Step.{stepped, has_room}
use Rattle.legal.specs.laws.Room.{step-within}
use Rattle.message.specs.Message.{bytes_of}
use Rattle.moves.specs.declared.Outgoing.{Outgoing}
use Rattle.moves.specs.laws.Own.{commands_of}
use Rattle.moves.specs.Carried.{carried, has_room_for}
use Rattle.numbers.specs.Sizes.{MOST-SHOWN}

-- 1 where a flag is on
unfoldable pub one_if : ℕ → ℕ
one_if flag = cond (eqb flag 1) 1 0

-- credential k, where its flag is on
abbrev pub on_at : Pool → ℕ → ℕ → List Credential
on_at P flag k = cond (eqb flag 1) (credential_at P k ∷ []) []

abbrev pub shows : List Credential → List Command
shows cs = map Show cs

-- whether a command has room among so many nodes, edges and credentials shown
abbrev pub room_by : ℕ → ℕ → ℕ → Command → Bool
room_by nodes edges shown (Show c) = ltb shown 64
room_by nodes edges shown (Open o) = ltb nodes 128
room_by nodes edges shown (Bring b) = ltb b.parent nodes && ltb nodes 128 && ltb edges 256
room_by nodes edges shown (Join e) = ltb edges 256
room_by nodes edges shown (Mark i) = ltb i nodes
room_by nodes edges shown End = true

-- Commands one after another

pub bytes-append : (a b : List Command) → bytes_of (a ++ b) ≡ bytes_of a ++ bytes_of b
bytes-append [] b = refl
bytes-append (c ∷ a) b = ap (λ (l : List ℕ). command_bytes c ++ l) (bytes-append a b) ∙ sym (append_assoc (command_bytes c) (bytes_of a) (bytes_of b))

pub carried-append : (s : ℕ) (S : State) (a b : List Command) → carried s S (a ++ b) ≡ carried s (carried s S a) b
carried-append s S [] b = refl
carried-append s S (c ∷ a) b = carried-append s (stepped S s c) a b

pub room-parts : (s : ℕ) (S : State) (a b : List Command) → has_room_for s S (a ++ b) ≡ true → (has_room_for s S a ≡ true) × (has_room_for s (carried s S a) b ≡ true)
room-parts s S [] b h = (refl, h)
room-parts s S (c ∷ a) b h =
    let p = and_parts (has_room S c) (has_room_for s (stepped S s c) (a ++ b)) h in
    let q = room-parts s (stepped S s c) a b p.1 in
    (ap (λ (x : Bool). x && has_room_for s (stepped S s c) a) p.0 ∙ q.0, q.1)

pub carried-within : (s : ℕ) (S : State) (cs : List Command) → within S ≡ true → has_room_for s S cs ≡ true → within (carried s S cs) ≡ true
carried-within s S [] w h = w
carried-within s S (c ∷ cs) w h =
    let p = and_parts (has_room S c) (has_room_for s (stepped S s c) cs) h in
    carried-within s (stepped S s c) cs (step-within S w s c p.0) p.1

pub one-length : (c : Command) → length (bytes_of (c ∷ [])) ≡ size_of c
one-length c = ap length (append-nil (command_bytes c)) ∙ command-length c

-- Credentials

pub shows-append : (a b : List Credential) → shows (a ++ b) ≡ shows a ++ shows b
shows-append [] b = refl
shows-append (c ∷ a) b = ap (λ (l : List Command). Show c ∷ l) (shows-append a b)

pub shows-length : (cs : List Credential) → length (bytes_of (shows cs)) ≡ 23 * length cs
shows-length [] = refl
shows-length (c ∷ cs) =
    let z : length (bytes_of (shows cs)) ≡ 23 * length cs = shows-length cs in omega
    (arith, length-append (command_bytes (Show c)) (bytes_of (shows cs)), command-length (Show c))

-- to whichever side they are shown
pub side-carried : (s t : ℕ) (S : State) (cs : List Credential) → carried s S (shows cs) ≡ carried t S (shows cs)
unfolding stepped
side-carried s t S [] = refl
side-carried s t S (c ∷ cs) = side-carried s t (with_shown S c) cs

pub side-room : (s t : ℕ) (S : State) (cs : List Credential) → has_room_for s S (shows cs) ≡ has_room_for t S (shows cs)
unfolding stepped
side-room s t S [] = refl
side-room s t S (c ∷ cs) = ap (λ (b : Bool). has_room S (Show c) && b) (side-room s t (with_shown S c) cs)

pub on-length : (P : Pool) (flag k : ℕ) → length (on_at P flag k) ≡ one_if flag
unfolding one_if
on-length P flag k = go (eqb flag 1)
  where
    go : (b : Bool) → length (cond b (credential_at P k ∷ []) []) ≡ cond b 1 0
    go true = refl
    go false = refl

pub one-few : (flag : ℕ) → one_if flag ≤ 1
unfolding one_if
one-few flag = go (eqb flag 1)
  where
    go : (b : Bool) → cond b 1 0 ≤ 1
    go true = omega arith
    go false = omega arith

pub one_on : (flag : ℕ) → flag ≡ 1 → 1 ≡ one_if flag
unfolding one_if
one_on flag e = ap (λ (b : Bool). cond b 1 0) (sym (eq-eqb flag 1 e))

pub one-off : (flag : ℕ) → (flag ≡ 1 → ⊥) → 0 ≡ one_if flag
unfolding one_if
one-off flag e = ap (λ (b : Bool). cond b 1 0) (sym (ne_eqb flag 1 e))

-- How many go out

pub record Counted (P : Pool) (on : List ℕ) (n k : ℕ) : Type 0 where
  pub counted : n ≡ length (chosen_to P on k)
  pub few : n ≤ k
  pub inside : k ≤ P.count

pub counted_start : (P : Pool) (on : List ℕ) → Counted P on 0 0
counted_start P on = record { counted = refl; few = omega arith; inside = omega arith }

module _ (P : Pool) (on : List ℕ) {n k : ℕ} (c : Counted P on n k) where
  pub counted_next : {d : ℕ} → k < P.count → d ≡ one_if (el on k) → Counted P on (n + d) (k + 1)
  counted_next {d} l e =
      record {
        counted =
            omega (arith, c.counted, e, length-append (chosen_to P on k) (on_at P (el on k) k), on-length P (el on k) k)
            ∙ ap (λ (m : ℕ). length (chosen_to P on m)) (sym (add-one k));
        few = omega (arith, c.few, e, one-few (el on k));
        inside = omega (arith, l);
      }

  pub counted-end : P.count ≤ k → n ≡ length (chosen P on)
  unfolding chosen
  counted-end l = let z : k ≡ P.count = omega (arith, c.inside, l) in c.counted ∙ ap (λ (m : ℕ). length (chosen_to P on m)) z

-- The bytes

pub size-outgoing : (r : Outgoing) {k s : ℕ} → k ≡ length (chosen r.pool r.on) → s ≡ size_of r.command → 23 * k + s ≡ length (bytes_of (commands_of r))
unfolding commands_of
size-outgoing r {k} {s} ke se =
    let cs : List Credential = chosen r.pool r.on in
    sym (
    ap length (bytes-append (shows cs) (r.command ∷ []))
    ∙ length-append (bytes_of (shows cs)) (bytes_of (r.command ∷ []))
    ∙ (λ i. (shows-length cs ∙ ap (λ (m : ℕ). 23 * m) (sym ke)) i + (one-length r.command ∙ sym se) i)
    )

size-most : (c : Command) → size_of c ≤ 24
size-most (Show c) = omega arith
size-most (Open o) = omega arith
size-most (Bring n) = omega arith
size-most (Join e) = omega arith
size-most (Mark i) = omega arith
size-most End = omega arith

pub size_few : (c : Command) {k s : ℕ} → k ≤ 128 → s ≡ size_of c → 23 * k + s ≤ 2968
size_few c l e = omega (arith, l, e, size-most c)

-- The room

pub room_by_lem : (S : State) (c : Command) → has_room S c ≡ room_by (length S.nodes) (length S.edges) (length S.shown) c
unfolding has_room
room_by_lem S (Show c) = refl
room_by_lem S (Open o) = refl
room_by_lem S (Bring n) = refl
room_by_lem S (Join e) = refl
room_by_lem S (Mark i) = refl
room_by_lem S End = refl

-- where it is known which command
pub room_of : (nodes edges shown : ℕ) (c k : Command) {b : Bool} → c ≡ k → b ≡ room_by nodes edges shown k → b ≡ room_by nodes edges shown c
room_of nodes edges shown c k h e = e ∙ ap (room_by nodes edges shown) (sym h)

pub room-of-bring : (nodes edges shown : ℕ) (c : Command) (b : NewEdge) {p : ℕ} → c ≡ Bring b → p ≡ b.parent
    → (ltb p nodes && ltb nodes 128 && ltb edges 256) ≡ room_by nodes edges shown c
room-of-bring nodes edges shown c b h e = ap (λ (p : ℕ). ltb p nodes && ltb nodes 128 && ltb edges 256) e ∙ ap (room_by nodes edges shown) (sym h)

pub room-of-mark : (nodes edges shown : ℕ) (c : Command) (i : ℕ) {p : ℕ} → c ≡ Mark i → p ≡ i → ltb p nodes ≡ room_by nodes edges shown c
room-of-mark nodes edges shown c i h e = ap (λ (p : ℕ). ltb p nodes) e ∙ ap (room_by nodes edges shown) (sym h)

room-past : (s : ℕ) (S : State) (cs : List Credential) (c : Command) → length S.shown ≤ MOST-SHOWN → 64 < length S.shown + length cs
    → has_room_for s S (shows cs ++ (c ∷ [])) ≡ false
unfolding has_room stepped with_shown
room-past s S [] c few past = absurd (omega (arith, few, past))
room-past s S (d ∷ cs) c few past = go (ltb (length S.shown) MOST-SHOWN) refl (λ x y. room-past s (with_shown S d) cs c x y)
  where
    more : length (S.shown ++ (d ∷ [])) ≡ length S.shown + 1
    more = length-append S.shown (d ∷ [])

    go : (b : Bool) → ltb (length S.shown) MOST-SHOWN ≡ b
        → (length (S.shown ++ (d ∷ [])) ≤ 64 → 64 < length (S.shown ++ (d ∷ [])) + length cs → has_room_for s (with_shown S d) (shows cs ++ (c ∷ [])) ≡ false)
        → (b && has_room_for s (with_shown S d) (shows cs ++ (c ∷ []))) ≡ false
    go true e ih = ih (omega (arith, more, ltb-true (length S.shown) MOST-SHOWN e)) (omega (arith, more, past))
    go false e ih = refl

room-behind : (s : ℕ) (S : State) (cs : List Credential) (c : Command) → length S.shown + length cs ≤ 64
    → has_room_for s S (shows cs ++ (c ∷ [])) ≡ room_by (length S.nodes) (length S.edges) (length S.shown + length cs) c
unfolding has_room stepped with_shown
room-behind s S [] c few = and-true (has_room S c) ∙ room_by_lem S c ∙ ap (λ (n : ℕ). room_by (length S.nodes) (length S.edges) n c) (omega arith)
room-behind s S (d ∷ cs) c few =
    let more : length (S.shown ++ (d ∷ [])) ≡ length S.shown + 1 = length-append S.shown (d ∷ []) in
    ap (λ (b : Bool). b && has_room_for s (with_shown S d) (shows cs ++ (c ∷ []))) (lt-ltb (length S.shown) MOST-SHOWN (omega (arith, few)))
    ∙ room-behind s (with_shown S d) cs c (omega (arith, more, few))
    ∙ ap (λ (n : ℕ). room_by (length S.nodes) (length S.edges) n c) (omega (arith, more))

module _ (n : Negotiation) (r : Outgoing) (w : within (state_of n) ≡ true) {k : ℕ} (ke : k ≡ length (chosen r.pool r.on)) where
  -- too many are shown
  pub room-none : 64 < n.shown.count + k → false ≡ has_room_for n.header.side (state_of n) (commands_of r)
  unfolding state_of commands_of
  room-none l =
      sym (room-past n.header.side (state_of n) (chosen r.pool r.on) r.command (omega (arith, count-length n.shown, (within-few n w).2))
      (omega (arith, count-length n.shown, ke, l)))

  pub room-left : {b : Bool} → n.shown.count + k ≤ 64 → b ≡ room_by n.nodes.count n.edges.count (n.shown.count + k) r.command
      → b ≡ has_room_for n.header.side (state_of n) (commands_of r)
  unfolding state_of commands_of
  room-left {b} l e =
      let cs : List Credential = chosen r.pool r.on in
      let z : n.shown.count + k ≡ length (credentials n.shown) + length cs = omega (arith, count-length n.shown, ke) in
      e
      ∙ (λ i. room_by (sym (nodes-length n.nodes) i) (sym (edges-length n.edges) i) (z i) r.command)
      ∙ sym (room-behind n.header.side (state_of n) cs r.command (omega (arith, z, l)))

-- One credential

module _ (P : Pool) (k : ℕ) (S : State) (d : List ℕ) (at : ℕ) where
  pub show-off : (flag : ℕ) → (flag ≡ 1 → ⊥) → (S ≡ carried 0 S (shows (on_at P flag k))) × (d ≡ pasted d at (bytes_of (shows (on_at P flag k))))
  show-off flag h =
      let z : [] ≡ on_at P flag k = ap (λ (b : Bool). cond b (credential_at P k ∷ []) []) (sym (ne_eqb flag 1 h)) in
      (ap (λ (l : List Credential). carried 0 S (shows l)) z, paste-zero d at [] ∙ ap (λ (l : List Credential). pasted d at (bytes_of (shows l))) z)

  module _ (flag : ℕ) (h : flag ≡ 1) where
    is-on : credential_at P k ∷ [] ≡ on_at P flag k
    is-on = ap (λ (b : Bool). cond b (credential_at P k ∷ []) []) (sym (eq-eqb flag 1 h))

    pub show-on : {c : Credential} {R : State} {e : List ℕ} → c ≡ credential_at P k → e ≡ pasted d at (command_bytes (Show c)) → R ≡ with_shown S c
        → (R ≡ carried 0 S (shows (on_at P flag k))) × (e ≡ pasted d at (bytes_of (shows (on_at P flag k))))
    unfolding stepped
    show-on {c} ce ee re = (
      re ∙ ap (with_shown S) ce ∙ ap (λ (l : List Credential). carried 0 S (shows l)) is-on,
      ee ∙ ap (λ (x : Credential). pasted d at (command_bytes (Show x))) ce
          ∙ ap (pasted d at) (sym (append-nil (command_bytes (Show (credential_at P k))))) ∙ ap (λ (l : List Credential). pasted d at (bytes_of (shows l))) is-on,
    )

    pub show-bytes : at + length (bytes_of (shows (on_at P flag k))) ≤ length d → at + 23 ≤ length d
    show-bytes l = omega (arith, l, ap (λ (m : List Credential). length (bytes_of (shows m))) is-on, one-length (Show (credential_at P k)))

pub show-free : (P : Pool) (k : ℕ) (n : Negotiation) (flag : ℕ) → flag ≡ 1 → has_room_for 0 (state_of n) (shows (on_at P flag k)) ≡ true
    → n.shown.count < MOST-SHOWN
unfolding has_room state_of
show-free P k n flag h room =
    let z : (has_room (state_of n) (Show (credential_at P k)) && true)
    ≡ true = ap (λ (l : List Credential). has_room_for 0 (state_of n) (shows l)) (is-on P k (state_of n) [] 0 flag h) ∙ room in
    omega (arith, count-length n.shown, ltb-true (length (credentials n.shown)) 64 (sym (and-true (has_room (state_of n) (Show (credential_at P k)))) ∙ z))

-- All that are on

-- those up to k come first
pub chosen-front : (P : Pool) (on : List ℕ) (k d : ℕ) → (rest : List Credential) × (chosen_to P on (k + d) ≡ chosen_to P on k ++ rest)
chosen-front P on k zero = let z : k + zero ≡ k = omega arith in ([], ap (chosen_to P on) z ∙ sym (append-nil (chosen_to P on k)))
chosen-front P on k (suc d) =
    let p = chosen-front P on k d in
    let tail : List Credential = on_at P (el on (k + d)) (k + d) in
    let z : k + suc d ≡ suc (k + d) = omega arith in
    (p.0 ++ tail, ap (chosen_to P on) z ∙ ap (λ (l : List Credential). l ++ tail) p.1 ∙ append_assoc (chosen_to P on k) p.0 tail)
