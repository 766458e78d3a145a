-- Fills of whole groups, one after another, are one fill; how many places a part has; a part made by a fill; a part as it is written; the
-- theorems; a loop over the parts.
pub mod Joining
pub mod Room
pub mod Made
pub mod Shown
pub mod Theorems
pub mod Looping
