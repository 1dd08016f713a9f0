mod MetWrites
