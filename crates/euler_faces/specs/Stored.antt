-- The lists of a map as they are stored.
use Rattle.map_lists.specs.Lists.{Lists}
use Rattle.map_lists.specs.Cuts.{cut}
use Rattle.euler_faces.specs.declared.stored_map.StoredMap.{StoredMap}

abbrev pub lists_of : StoredMap → Lists
lists_of map = cut 0 map.ends.now map.entries.now
