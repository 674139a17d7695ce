-- A move is written and carried out: first its credentials one by one, then its command. Assumes nothing.
use Prim.Native.Nat.{ℕ, zero, suc, ◌+◌, ◌-◌, ◌*◌, ◌≤◌, ◌<◌}
use Rattle.std.proofs.Common.{arith, add-one, ◌∙◌, append-nil}
use Rattle.std.specs.Prelude.{◌≡◌, refl, Bool, true, false, cond, List, [], ◌∷◌, ◌++◌}
use Rattle.std.proofs.Math.Path.{sym, ap}
use Rattle.std.proofs.Math.Bool.{and-true}
use Rattle.std.proofs.Math.ListN.{length, length-append}
use Rattle.std.proofs.Math.Seq.{paste-zero}
use Rattle.std.proofs.lemmas.List.Edits.{length-paste}
use Rattle.expression.specs.declared.Credential.{Credential}
use Rattle.expression.specs.Bytes.{pasted}
use Rattle.expression.specs.laws.Codec.{paste-paste}
use Rattle.rt0.specs.declared.Pool.{Pool}
use Rattle.rt0.specs.laws.Pool.{credential_at}
use Rattle.rules.specs.laws.Table.{chosen_to, chosen}
use Rattle.closure.specs.laws.Rules.{el}
use Rattle.propagation.specs.laws.Flags.{flag}
use Rattle.candidates.specs.laws.Skipped.{Skipped}
use Rattle.message.specs.declared.Command.{Command}
use Rattle.message.specs.Command.{command_bytes, size_of}
use Rattle.negotiation.specs.State.{State, within}
use Rattle.applied.specs.Step.{stepped, has_room}
use Rattle.message.specs.Message.{bytes_of}
use Rattle.moves.specs.declared.Outgoing.{Outgoing}
use Rattle.moves.specs.laws.Own.{commands_of}
use Rattle.moves.specs.Carried.{carried, has_room_for}
use Rattle.reply.specs.laws.Outgoing.{one_if, on_at, shows, bytes-append, carried-append, room-parts, carried-within, one-length, shows-append}
use Rattle.reply.specs.laws.Outgoing.{shows-length, side-carried, side-room, on-length, chosen-front}

pub paste-length : (d : List ℕ) (at : ℕ) (xs : List ℕ) → at + length xs ≤ length d → length (pasted d at xs) ≡ length d
paste-length d at xs h = length-paste d at xs (length xs) h (omega arith)

-- two lists of commands, written one behind the other
pub pasted-behind : (d e : List ℕ) (at n : ℕ) (a b : List Command) → e ≡ pasted d at (bytes_of a) → n ≡ at + length (bytes_of a)
    → at + length (bytes_of a) + length (bytes_of b) ≤ length d
    → pasted e n (bytes_of b) ≡ pasted d at (bytes_of (a ++ b))
pasted-behind d e at n a b ee ne room =
    (λ i. pasted (ee i) (ne i) (bytes_of b)) ∙ paste-paste d at (bytes_of a) (bytes_of b) room ∙ ap (pasted d at) (sym (bytes-append a b))

-- none from k on is on
chosen-skip : (P : Pool) (on : List ℕ) (k d : ℕ) → ((j : ℕ) → k ≤ j → j < k + d → flag on j ≡ false) → chosen_to P on (k + d) ≡ chosen_to P on k
chosen-skip P on k zero h = let z : k + zero ≡ k = omega arith in ap (chosen_to P on) z
chosen-skip P on k (suc d) h =
    let z : k + suc d ≡ suc (k + d) = omega arith in
    ap (chosen_to P on) z
    ∙ (ap (λ (b : Bool). chosen_to P on (k + d) ++ cond b (credential_at P (k + d) ∷ []) []) (h (k + d) (omega arith) (omega arith))
    ∙ (append-nil (chosen_to P on (k + d)) ∙ chosen-skip P on k d (λ j a b. h j a (omega (arith, b)))))

-- the credentials below k are written and shown
pub record Showing (P : Pool) (on : List ℕ) (S₀ : State) (d₀ : List ℕ) (from : ℕ) (S : State) (d : List ℕ) (at k : ℕ) : Type 0 where
  pub room : has_room_for 0 S₀ (shows (chosen P on)) ≡ true
  pub fits : from + length (bytes_of (shows (chosen P on))) ≤ 4096
  pub long : 4096 ≤ length d₀
  pub inside : k ≤ P.count
  pub state : S ≡ carried 0 S₀ (shows (chosen_to P on k))
  pub bytes : d ≡ pasted d₀ from (bytes_of (shows (chosen_to P on k)))
  pub behind : at ≡ from + length (bytes_of (shows (chosen_to P on k)))

module _ (P : Pool) (on : List ℕ) (S₀ : State) (d₀ : List ℕ) (from : ℕ) where
  pub showing-start : has_room_for 0 S₀ (shows (chosen P on)) ≡ true → from + length (bytes_of (shows (chosen P on))) ≤ 4096 → 4096 ≤ length d₀
      → Showing P on S₀ d₀ from S₀ d₀ from 0
  showing-start room fits long =
      record { room = room; fits = fits; long = long; inside = omega arith; state = refl; bytes = paste-zero d₀ from []; behind = omega arith }

  module _ {S : State} {d : List ℕ} {at k : ℕ} (s : Showing P on S₀ d₀ from S d at k) where
    pub showing-end : P.count ≤ k → (S ≡ carried 0 S₀ (shows (chosen P on))) × (d ≡ pasted d₀ from (bytes_of (shows (chosen P on))))
    unfolding chosen
    showing-end l =
        let z : k ≡ P.count = omega (arith, s.inside, l) in
        (s.state ∙ ap (λ (m : ℕ). carried 0 S₀ (shows (chosen_to P on m))) z, s.bytes ∙ ap (λ (m : ℕ). pasted d₀ from (bytes_of (shows (chosen_to P on m)))) z)

    -- as long as before
    pub showing-length : length d ≡ length d₀
    unfolding chosen
    showing-length =
        let p = chosen-front P on k (P.count - k) in
        let z : P.count ≡ k + (P.count - k) = omega (arith, s.inside) in
        let all : length (chosen P on) ≡ length (chosen_to P on k) + length p.0 = ap (λ (m : ℕ). length (chosen_to P on m)) z ∙ ap length p.1
        ∙ length-append (chosen_to P on k) p.0 in
        ap length s.bytes ∙ paste-length d₀ from (bytes_of (shows (chosen_to P on k)))
        (omega (arith, s.fits, s.long, all, shows-length (chosen P on), shows-length (chosen_to P on k)))

    -- credentials that are off are passed over
    pub showing-skip : {r : ℕ} → Skipped (flag on) k P.count r → Showing P on S₀ d₀ from S d at r
    showing-skip {r} q =
        let z : r ≡ k + (r - k) = omega (arith, q.from) in
        let same : chosen_to P on k ≡ chosen_to P on r = sym (chosen-skip P on k (r - k) (λ j a b. q.none j a (omega (arith, b, z))))
        ∙ sym (ap (chosen_to P on) z) in
        record {
          room = s.room;
          fits = s.fits;
          long = s.long;
          inside = q.within;
          state = s.state ∙ ap (λ (l : List Credential). carried 0 S₀ (shows l)) same;
          bytes = s.bytes ∙ ap (λ (l : List Credential). pasted d₀ from (bytes_of (shows l))) same;
          behind = s.behind ∙ ap (λ (l : List Credential). from + length (bytes_of (shows l))) same;
        }

    module _ (l : k < P.count) where
      abbrev before : List Credential
      before = chosen_to P on k

      abbrev here : List Credential
      here = on_at P (el on k) k

      abbrev rest : List Credential
      rest = (chosen-front P on (suc k) (P.count - suc k)).0

      all : chosen P on ≡ (before ++ here) ++ rest
      unfolding chosen
      all = let z : P.count ≡ suc k + (P.count - suc k) = omega (arith, l) in ap (chosen_to P on) z ∙ (chosen-front P on (suc k) (P.count - suc k)).1

      all-length : length (bytes_of (shows (chosen P on))) ≡ 23 * length before + 23 * length here + 23 * length rest
      all-length = omega (arith, shows-length (chosen P on), ap length all, length-append (before ++ here) rest, length-append before here)

      within-most : from + length (bytes_of (shows before)) + length (bytes_of (shows here)) ≤ 4096
      within-most = omega (arith, s.fits, all-length, shows-length before, shows-length here)

      enough : from + length (bytes_of (shows before)) + length (bytes_of (shows here)) ≤ length d₀
      enough = omega (arith, within-most, s.long)

      pub showing-room : has_room_for 0 S (shows (on_at P (el on k) k)) ≡ true
      showing-room =
          let whole : has_room_for 0 S₀ ((shows before ++ shows here) ++ shows rest) ≡ true
          = ap (has_room_for 0 S₀) (sym (ap shows all ∙ shows-append (before ++ here) rest
          ∙ ap (λ (x : List Command). x ++ shows rest) (shows-append before here))) ∙ s.room in
          ap (λ (x : State). has_room_for 0 x (shows here)) s.state
          ∙ (room-parts 0 S₀ (shows before) (shows here) (room-parts 0 S₀ (shows before ++ shows here) (shows rest) whole).0).1

      pub showing-fits : at + length (bytes_of (shows (on_at P (el on k) k))) ≤ length d
      showing-fits = omega (arith, enough, showing-length, s.behind)

      -- one more
      pub showing-next : {R : State} {e : List ℕ} {x : ℕ} → R ≡ carried 0 S (shows (on_at P (el on k) k))
          → e ≡ pasted d at (bytes_of (shows (on_at P (el on k) k))) → x ≡ one_if (el on k)
          → Showing P on S₀ d₀ from R e (at + 23 * x) (k + 1)
      showing-next {R} {e} {x} re ee xe =
          let joined : shows before ++ shows here ≡ shows (chosen_to P on (k + 1)) = sym (shows-append before here)
          ∙ ap (λ (m : ℕ). shows (chosen_to P on m)) (sym (add-one k)) in
          let counted : at + 23 * x ≡ from + length (bytes_of (shows (before ++ here))) = omega
          (arith, s.behind, xe, on-length P (el on k) k, length-append before here, shows-length before, shows-length (before ++ here)) in
          record {
            room = s.room;
            fits = s.fits;
            long = s.long;
            inside = omega (arith, l);
            state =
                re ∙ ap (λ (T : State). carried 0 T (shows here)) s.state ∙ sym (carried-append 0 S₀ (shows before) (shows here)) ∙ ap (carried 0 S₀) joined;
            bytes =
                ee ∙ pasted-behind d₀ d from at (shows before) (shows here) s.bytes s.behind enough
                ∙ ap (λ (c : List Command). pasted d₀ from (bytes_of c)) joined;
            behind = counted ∙ ap (λ (m : ℕ). from + length (bytes_of (shows (chosen_to P on m)))) (sym (add-one k));
          }

      -- it ends within the bytes
      pub showing-inside : {x : ℕ} → x ≡ one_if (el on k) → at + 23 * x ≤ 4096
      showing-inside {x} xe = omega (arith, within-most, s.behind, xe, on-length P (el on k) k, shows-length (on_at P (el on k) k))

-- The whole move

module _ (s : ℕ) (S : State) (r : Outgoing) (d : List ℕ) (at : ℕ) (room : has_room_for s S (commands_of r) ≡ true)
    (fits : at + length (bytes_of (commands_of r)) ≤ 4096) (long : 4096 ≤ length d) where
  abbrev out : List Credential
  out = chosen r.pool r.on

  parts : (has_room_for s S (shows out) ≡ true) × (has_room_for s (carried s S (shows out)) (r.command ∷ []) ≡ true)
  unfolding commands_of
  parts = room-parts s S (shows out) (r.command ∷ []) room

  all-bytes : length (bytes_of (commands_of r)) ≡ length (bytes_of (shows out)) + size_of r.command
  unfolding commands_of
  all-bytes =
      ap length (bytes-append (shows out) (r.command ∷ [])) ∙ length-append (bytes_of (shows out)) (bytes_of (r.command ∷ []))
      ∙ ap (λ (k : ℕ). length (bytes_of (shows out)) + k) (one-length r.command)

  pub carry-room : has_room_for 0 S (shows (chosen r.pool r.on)) ≡ true
  carry-room = side-room 0 s S out ∙ parts.0

  pub carry-fits : at + length (bytes_of (shows (chosen r.pool r.on))) ≤ 4096
  carry-fits = omega (arith, fits, all-bytes)

  -- once the credentials are out
  module _ {M : State} {e : List ℕ} (me : M ≡ carried 0 S (shows (chosen r.pool r.on)))
      (ee : e ≡ pasted d at (bytes_of (shows (chosen r.pool r.on)))) where
    led : M ≡ carried s S (shows out)
    led = me ∙ side-carried 0 s S out

    pub carry-within : within S ≡ true → within M ≡ true
    carry-within w = ap within led ∙ carried-within s S (shows out) w parts.0

    pub carry-step : has_room M r.command ≡ true
    carry-step = ap (λ (T : State). has_room T r.command) led ∙ sym (and-true (has_room (carried s S (shows out)) r.command)) ∙ parts.1

    module _ {k : ℕ} (ke : k ≡ length (chosen r.pool r.on)) where
      pub carry-behind : at + 23 * k + size_of r.command ≤ length e
      carry-behind =
          omega (arith, fits, all-bytes, ke, shows-length out, ap length ee, paste-length d at (bytes_of (shows out)) (omega (arith, carry-fits, long)), long)

      pub carry-led : {R : State} {g : List ℕ} → g ≡ pasted e (at + 23 * k) (command_bytes r.command) → R ≡ stepped M s r.command
          → (R ≡ carried s S (commands_of r)) × (g ≡ pasted d at (bytes_of (commands_of r)))
      unfolding commands_of
      carry-led {R} {g} ge re =
          let n : at + 23 * k ≡ at + length (bytes_of (shows out)) = omega (arith, ke, shows-length out) in
          let enough : at + length (bytes_of (shows out)) + length (bytes_of (r.command ∷ [])) ≤ length d = omega
          (arith, fits, long, all-bytes, one-length r.command) in (
            re ∙ ap (λ (T : State). stepped T s r.command) led ∙ sym (carried-append s S (shows out) (r.command ∷ [])),
            ge ∙ ap (pasted e (at + 23 * k)) (sym (append-nil (command_bytes r.command)))
                ∙ pasted-behind d e at (at + 23 * k) (shows out) (r.command ∷ []) ee n enough,
          )
