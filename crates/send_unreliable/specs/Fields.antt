-- The fields of an unreliable sender as a contract sees them, and back. Assumes nothing.
use Rattle.send_unreliable.specs.State.{State}
use Rattle.send_unreliable.specs.declared.SendChannelUnreliable.TheInside.{Inside}

abbrev pub state_of : Inside → State
state_of a =
    record {
      channel_id = a.channel_id;
      settings = a.settings;
      sliced_message_id = a.sliced_message_id;
      memory_usage_bytes = a.memory_usage_bytes;
      count = a.count;
      small = a.small;
      sliced = a.sliced;
      lens = a.lens;
    }

abbrev pub fields_of : State → Inside
fields_of s =
    record {
      channel_id = s.channel_id;
      settings = s.settings;
      sliced_message_id = s.sliced_message_id;
      memory_usage_bytes = s.memory_usage_bytes;
      count = s.count;
      small = s.small;
      sliced = s.sliced;
      lens = s.lens;
    }
