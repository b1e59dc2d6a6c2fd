-- How text is shown on the output.
use Rattle.std.specs.Prelude.{◌&&◌, not, Bool, true, false, Option, None, if◌then◌else◌}
use Rattle.file_check.specs.declared.asked.Screen.{Screen}
use Rattle.check_options.specs.declared.terminal.Color.{Color}
use Rattle.check_options.specs.declared.terminal.Color.TheVariants.{Auto, Always, Never}
use Rattle.check_options.specs.declared.terminal.Terminal.{Terminal}

-- colours: as is asked, and else on a terminal for which none are refused
abbrev pub is_colored : Color → Terminal → Bool
is_colored Always t = true
is_colored Never t = false
is_colored Auto t = t.is_there && not t.is_plain

-- a line has the columns of the terminal, where the output is one
abbrev pub screen_of : Color → Terminal → Screen
screen_of color t = record { is_colored = is_colored color t; width = (if t.is_there then t.columns else None) }
