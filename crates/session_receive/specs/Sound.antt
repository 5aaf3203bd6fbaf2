-- The two receivers of a session, as their libraries made and left them. Assumes nothing.
use Rattle.std.specs.Prelude.{◌≤◌, ◌≡◌}
use Rattle.memory.specs.Sizes.{SMALL, LANES}
use Rattle.answers.specs.declared.lent.Stores.{Stores}
use Rattle.receive_reliable.specs.Receive as reliable
use Rattle.receive_unreliable.specs.Receive as unreliable
use Rattle.session_receive.specs.declared.Receivers.{Receivers}

-- all of a receiver's stores is lent
pub record Whole (s : Stores) : Type 0 where
  pub small : s.small ≡ SMALL
  pub lanes : s.lanes ≡ LANES

-- no more is lent than there is
pub record Within (s : Stores) : Type 0 where
  pub small : s.small ≤ SMALL
  pub lanes : s.lanes ≤ LANES

-- both are valid. Shut, so that a proof that hands them on does not look into them
unfoldable pub Sound : Receivers → Type 0
Sound r =
    reliable.Valid r.reliable × unreliable.Valid r.unreliable × Within r.reliable_lent × Within r.unreliable_lent
