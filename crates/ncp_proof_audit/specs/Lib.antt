pub mod CleanRecords
