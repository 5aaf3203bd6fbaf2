-- The fields of a window as a contract sees them, and back. Assumes nothing.
use Rattle.window.specs.State.{State}
use Rattle.window.specs.declared.Window.TheInside.{Inside}

abbrev pub state_of : Inside → State
state_of a = record { settings = a.settings; first = a.first; count = a.count; lens = a.lens; load = a.load }

abbrev pub fields_of : State → Inside
fields_of s = record { settings = s.settings; first = s.first; count = s.count; lens = s.lens; load = s.load }
