-- The fields of a reassembly as a contract sees them, and back. Assumes nothing.
use Rattle.slice_constructor.specs.State.{State}
use Rattle.slice_constructor.specs.declared.SliceConstructor.TheInside.{Inside}

abbrev pub state_of : Inside → State
state_of a =
    record {
      message_id = a.message_id;
      num_slices = a.num_slices;
      num_received_slices = a.num_received_slices;
      last_len = a.last_len;
      received = a.received;
    }

abbrev pub fields_of : State → Inside
fields_of s =
    record {
      message_id = s.message_id;
      num_slices = s.num_slices;
      num_received_slices = s.num_received_slices;
      last_len = s.last_len;
      received = s.received;
    }
