mod Faults
mod Walking
mod Catalogs
