-- `script::numbers::Window::offer` meets its contract. Assumes nothing.
use Rattle.std.proofs.Common.{rules}
use Rattle.window.proofs.MarksLaws.{new_near, new_some}
use Rattle.script.proofs.numbers.Window.offer.Goals as goal

pub accept-self-requires : goal.accept-self-requires
accept-self-requires c = search (rules, new_some, new_near)
