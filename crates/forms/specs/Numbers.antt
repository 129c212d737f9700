-- What the numbers of a form are to one another, and how large: what a HeaderForm holds. Assumes nothing.
use Rattle.std.specs.Prelude.{◌≡◌, ℕ, ◌+◌, ◌*◌, ◌≤◌}
use Rattle.ledger.specs.Header.{Form, Narrow, front_bytes, spare, header_size}

abbrev pub form_by : ℕ → ℕ → ℕ → Form
form_by port queue offer = record { port_bits = port; queue_bits = queue; offer_bytes = offer }

-- they hold what the first three say, and these are a switch's
pub record IsForm (port queue offer front spare' size : ℕ) : Type 0 where
  pub narrow : Narrow (form_by port queue offer)
  pub front_is : front ≡ front_bytes (form_by port queue offer)
  pub spare_is : spare' ≡ spare (form_by port queue offer)
  pub size_is : size ≡ header_size (form_by port queue offer)

-- so they are small
pub record IsSmall (port queue offer front spare' size : ℕ) : Type 0 where
  pub three : 3 ≤ front
  pub four : front ≤ 4
  pub few_spare : spare' ≤ 7
  pub filled : 2 * port + queue + 14 + spare' ≡ 8 * front
  pub whole : size ≡ front + 4 + offer + 2
