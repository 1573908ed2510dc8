-- The four vertices of the outer face, as code names them.
use Rattle.std.specs.Prelude.{ℕ, ◌≡◌}
use Rattle.map_lists.specs.Lists.{Lists}
use Rattle.map_theory.specs.Maps.{follows}
use Rattle.rect_orders.specs.declared.rect_order.outer_frame.Frame.{Frame}

-- they are s, d, p and t, and `inner` is on a face with the left one and the bottom
pub record IsFrameOf (lists : Lists) (frame : Frame) (s d p t : ℕ) : Type 0 where
  pub left_is : frame.left.0 ≡ s
  pub top_is : frame.top.0 ≡ d
  pub right_is : frame.right.0 ≡ p
  pub bottom_is : frame.bottom.0 ≡ t
  pub inner_is : frame.inner.0 ≡ follows lists t s
