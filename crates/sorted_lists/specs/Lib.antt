pub mod SortedLists
