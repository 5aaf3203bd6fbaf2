-- The fields of the two receivers as a contract sees them, and back. Assumes nothing.
use Rattle.session_receive.specs.State.{State}
use Rattle.session_receive.specs.declared.Receivers.TheInside.{Inside}

abbrev pub state_of : Inside → State
state_of a =
    record {
      reliable = a.reliable;
      unreliable = a.unreliable;
      reliable_lent = a.reliable_lent;
      unreliable_lent = a.unreliable_lent;
    }

abbrev pub fields_of : State → Inside
fields_of s =
    record {
      reliable = s.reliable;
      unreliable = s.unreliable;
      reliable_lent = s.reliable_lent;
      unreliable_lent = s.unreliable_lent;
    }
