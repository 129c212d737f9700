-- How a run's stretch of fields goes on: each way by what the field at its place asks. Assumes nothing.
use mathlib.Core.Path.{◌≡◌, refl, ap}
use mathlib.Core.Logic.{inl, inr}
use mathlib.Core.List.{List, ◌∷◌}
use Prim.Native.Nat.{ℕ, zero, suc, ◌/◌, ◌≤◌}
use native.Mathlib.Omega.{arith}
use lib.ListN.{length}
use Rattle.ledger.specs.Header.{form, header_size}
use Rattle.ledger.specs.Calls.{Act}
use Rattle.fields.proofs.Fields.{field_end}
use Rattle.memory.specs.Runs.{Ask, does, bad, ended, asked_by, asked_at, the_end, bad_field, no_room, Stretch, stops, goes_on, halts, stretch, stretch_of}
use Rattle.memory.specs.Runs.{AskedInTurn, StoppedFor, RunStops}

-- past the last byte the fields have ended
pub asked_end : (size : ℕ) (s : List ℕ) (at : ℕ) → length s ≤ at → asked_at size s at ≡ ended
unfolding asked_at
asked_end size s at h = ap (asked_by size s) (field_end s at h)

module _ (size : ℕ) (s : List ℕ) (at : ℕ) where
  pub stretch_bad : asked_at size s at ≡ bad → (n : ℕ) → stretch size s n at ≡ stops bad_field
  unfolding stretch
  stretch_bad e zero = rw e
  stretch_bad e (suc n) = rw e

  pub stretch_ended : asked_at size s at ≡ ended → (n : ℕ) → stretch size s n at ≡ stops the_end
  unfolding stretch
  stretch_ended e zero = rw e
  stretch_ended e (suc n) = rw e

  module _ (a : Act) (next : ℕ) (e : asked_at size s at ≡ does a next) where
    pub stretch_full : stretch size s 0 at ≡ stops no_room
    unfolding stretch
    stretch_full = rw e

    pub stretch_goes : (n : ℕ) → stretch size s (suc n) at ≡ record { acts = a ∷ (stretch size s n next).acts; why = (stretch size s n next).why }
    unfolding stretch
    stretch_goes n = rw e

-- ---- where and why it stops

-- from any place on, where n answers more fit
abbrev Stops : ℕ → List ℕ → ℕ → ℕ → Stretch → Type 0
Stops size s n at t =
    (length t.acts ≤ n) × (stop : ℕ) × AskedInTurn size s at t.acts stop × StoppedFor size s stop (length t.acts ≡ n) t.why

for_full : (size : ℕ) (s : List ℕ) (stop why : ℕ) {X Y : Type 0} → (X → Y) → StoppedFor size s stop X why → StoppedFor size s stop Y why
for_full size s stop why f (inl o) = inl o
for_full size s stop why f (inr (inl o)) = inr (inl o)
for_full size s stop why f (inr (inr o)) = inr (inr (o.0, f o.1, o.2))

stretch_stops : (size : ℕ) (s : List ℕ) (n at : ℕ) → Stops size s n at (stretch size s n at)
unfolding stretch
stretch_stops size s zero at = go (asked_at size s at) refl
  where
    go : (a : Ask) → asked_at size s at ≡ a → Stops size s 0 at (halts a)
    go (does a next) e = (omega arith, at, refl, inr (inr (refl, refl, (a, next, e))))
    go bad e = (omega arith, at, refl, inr (inl (refl, e)))
    go ended e = (omega arith, at, refl, inl (refl, e))
stretch_stops size s (suc n) at = go (asked_at size s at) refl (λ next. stretch_stops size s n next)
  where
    go : (a : Ask) → asked_at size s at ≡ a → ((next : ℕ) → Stops size s n next (stretch size s n next))
        → Stops size s (suc n) at (goes_on a (λ next. stretch size s n next))
    go (does a next) e rec =
        let r = rec next in
        (omega (arith, r.0), r.1, (next, e, r.2), for_full size s r.1 (stretch size s n next).why (ap suc) r.3)
    go bad e rec = (omega arith, at, refl, inr (inl (refl, e)))
    go ended e rec = (omega arith, at, refl, inl (refl, e))

pub run_stops : RunStops
unfolding RunStops
run_stops S s n =
    let r = stretch_stops (header_size (form S)) s (n / 4) 0 in
    (omega (arith, r.0), r.1, r.2, for_full (header_size (form S)) s r.1 (stretch_of S s n).why (λ e. omega (arith, e)) r.3)
